-- How the tilings are shared out: each is listed once or belongs to exactly one pending task.
use Rattle.std.specs.List.{list_all}
use Rattle.std.specs.Prelude.{Bool, List, None, Option, Some, [], false, not, true, ℕ, ◌+◌, ◌≡◌}
use Rattle.poly_tiling.specs.Lists.{same_list, tally}
use Rattle.poly_tiling.specs.Puzzle.{View, is_tiling}
use Rattle.poly_atom.specs.Atoms.{meets_all}
use Rattle.poly_tasks.specs.Tasks.{atoms_of}
use Rattle.poly_book.specs.States.{State}
use Rattle.poly_tasks.specs.Stored.{Stored}

-- Each tiling is listed once and meets the atoms of no pending task, or isn't listed and meets those of exactly one; what is
-- listed is a tiling.
pub record Partition (s : State) : Type 0 where
  pub shared : (T : List ℕ) → is_tiling s.view T ≡ true → tally (λ U. same_list U T) s.listed + tally (λ t. meets_all s.view T (atoms_of t)) s.pending ≡ 1
  pub only : list_all (λ U. is_tiling s.view U) s.listed ≡ true

-- A tiling comes back if it is one of `to` but not of `from`. If a shelf is kept, each tiling that comes back is on the shelf
-- once and meets none of its frozen lists, or isn't on the shelf and meets exactly one of them; and every tiling on the shelf
-- comes back.
abbrev pub IsShelf : View → View → Option Stored → Type 0
IsShelf from to None = Unit {0}
IsShelf from to (Some h) =
    ((T : List ℕ) → is_tiling to T ≡ true → is_tiling from T ≡ false → tally (λ V. same_list V T) h.taken + tally (λ A. meets_all to T A) h.frozen ≡ 1)
    × (list_all (λ T. is_tiling to T) h.taken ≡ true)
    × (list_all (λ T. not (is_tiling from T)) h.taken ≡ true)

-- every tiling is listed once, nothing else is listed, and nothing is pending
pub record Complete (s : State) : Type 0 where
  pub none : s.pending ≡ []
  pub once : (T : List ℕ) → is_tiling s.view T ≡ true → tally (λ U. same_list U T) s.listed ≡ 1
  pub only : list_all (λ U. is_tiling s.view U) s.listed ≡ true

-- the same state up to the order of the listed tilings
pub record Becomes (s t : State) : Type 0 where
  pub same : t ≡ record s { listed = t.listed }
  pub order : (f : List ℕ → Bool) → tally f t.listed ≡ tally f s.listed
