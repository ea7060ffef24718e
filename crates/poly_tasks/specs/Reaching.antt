-- How far the spans that a change touches reach.
use Rattle.std.specs.Prelude.{Bool, List, length, slice_index_or, true, ℕ, ◌<◌, ◌≡◌, ◌≤◌}
use Rattle.poly_tiling.specs.Puzzle.{View}
use Rattle.poly_atom.specs.declared.atom.Atom.{Atom}
use Rattle.poly_atom.specs.Hopeless.{hopeless}
use Rattle.poly_tasks.specs.declared.task.Pending.{Pending}
use Rattle.poly_tasks.specs.Meaning.{own_of}

-- an entry at or before the index reaches the number
abbrev pub Reaches : List ℕ → ℕ → ℕ → Type 0
Reaches reach i n = (j : ℕ) × (j ≤ i) × (n ≤ slice_index_or reach j 0)

-- each task whose number passes `f` is reached
abbrev pub IsReached : List ℕ → List Pending → (ℕ → Bool) → Type 0
IsReached reach ps f = (i : ℕ) (d : Pending) → i < length ps → f (slice_index_or ps i d).number ≡ true → Reaches reach i (slice_index_or ps i d).number

-- each entry reaches at least as far as before
pub record IsFarther (old new : List ℕ) : Type 0 where
  pub len : length new ≡ length old
  pub far : (j n : ℕ) → n ≤ slice_index_or old j 0 → n ≤ slice_index_or new j 0

-- each task whose own atoms are hopeless is reached
abbrev pub AreEndsReached : View → List (List Atom) → List Pending → List ℕ → Type 0
AreEndsReached w log ps reach = (i : ℕ) (d : Pending) → i < length ps → hopeless w (own_of log (slice_index_or ps i d).own) ≡ true → Reaches reach i (slice_index_or ps i d).number
