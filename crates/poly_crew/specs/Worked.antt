-- What a worker leaves, and what a crew leaves.
use Rattle.std.specs.Global.{Global}
use Rattle.std.specs.List.{All, AllZip}
use Rattle.std.specs.Prelude.{List, Result, Vec, Err, Ok, [], ℕ, ◌+◌, ◌∷◌, ◌≡◌, ◌≤◌, ◌⊎◌, vec_len}
use Rattle.poly_grid.specs.declared.refusal.Refusal.{Refusal}
use Rattle.poly_grid.specs.declared.refusal.Refusal.TheVariants.{Memory, Unfinished}
use Rattle.poly_desk.specs.declared.receipt.Receipt.{Receipt}
use Rattle.poly_crew.specs.declared.worker.Worker.{Worker}

-- The pass has as many changes as before, and one more cut for each new receipt of the worker; the worker has at most `most`
-- new receipts. If the bench gave the pass all receipts that the worker had, it also gave the new ones.
pub record IsWorked {P : Type 0} (changes cuts : P → ℕ) (gave : P → Receipt → Type 0) (most : ℕ) (before after : Worker P) : Type 0 where
  pub changes_stay : changes after.pass ≡ changes before.pass
  pub cuts_are : cuts after.pass + vec_len before.receipts ≡ cuts before.pass + vec_len after.receipts
  pub few : vec_len after.receipts ≤ vec_len before.receipts + most
  pub given : All (gave before.pass) before.receipts.items → All (gave after.pass) after.receipts.items

-- how a worker with the pass ended: well, only if the bench answered that no task is pending; otherwise its turns were used up,
-- memory ran out, or the bench refused a call with this refusal
abbrev pub IsEnd : {P : Type 0} → (P → Type 0) → (P → Refusal → Type 0) → P → Result (Unit {0}) Refusal → Type 0
IsEnd found_none refused pass (Ok x) = found_none pass
IsEnd found_none refused pass (Err e) = (e ≡ Unfinished) ⊎ (e ≡ Memory) ⊎ refused pass e

-- the worker has worked, and ended
pub record HasRun {P : Type 0} (changes cuts : P → ℕ) (gave : P → Receipt → Type 0) (found_none : P → Type 0) (refused : P → Refusal → Type 0) (most : ℕ) (before after : Worker P) : Type 0 where
  pub worked : IsWorked changes cuts gave most before after
  pub ended : IsEnd found_none refused after.pass after.end

-- the first refusal among the ends, or a good end if there is none
abbrev pub first_of : List (Result (Unit {0}) Refusal) → Result (Unit {0}) Refusal
first_of [] = Ok tt
first_of (Ok x ∷ ends) = first_of ends
first_of (Err e ∷ ends) = Err e

-- Each pass had a worker of its own. The crew ends as the first worker, in the order of the passes, that didn't end well, and
-- it ends well only if each did. For each pass there is a list of receipts, all of them given to this pass.
pub record AllHaveRun {P : Type 0} (gave : P → Receipt → Type 0) (found_none : P → Type 0) (refused : P → Refusal → Type 0) (passes : List P) (lists : List (Vec Receipt Global)) (end : Result (Unit {0}) Refusal) : Type 0 where
  pub ends : List (Result (Unit {0}) Refusal)
  pub each : AllZip (IsEnd found_none refused) passes ends
  pub first : end ≡ first_of ends
  pub receipts : AllZip (λ pass list. All (gave pass) list.items) passes lists

-- the workers couldn't be set up, so no worker ran and there are no lists of receipts; or all workers ran
abbrev pub Leaves : {P : Type 0} → (P → Receipt → Type 0) → (P → Type 0) → (P → Refusal → Type 0) → List P → List P → List (Vec Receipt Global) → Result (Unit {0}) Refusal → Type 0
Leaves gave found_none refused before after lists end = ((end ≡ Err Memory) × (lists ≡ []) × (after ≡ before)) ⊎ AllHaveRun gave found_none refused after lists end
