-- Changes that find nothing pending, and what their undo and redo leave.
use Rattle.std.specs.List.{list_any}
use Rattle.std.specs.Prelude.{Bool, List, None, Option, Some, [], cond, false, length, map, not, true, ℕ, ◌&&◌, ◌+◌, ◌<◌, ◌==◌, ◌||◌, ◌∷◌, ◌≡◌}
use Rattle.poly_tiling.proofs.Lists.{In}
use Rattle.poly_atom.specs.declared.atom.Atom.{Atom}
use Rattle.poly_atom.specs.Hopeless.{hopeless}
use Rattle.poly_book.specs.declared.step.Step.{Step}
use Rattle.poly_tasks.specs.Tasks.{Task}
use Rattle.poly_book.specs.States.{State}
use Rattle.poly_tasks.specs.Stored.{Stored}
use Rattle.poly_book.specs.Trails.{Led, Trail}

-- Step number m found nothing pending, and each undo and redo since had a kept shelf. The newest step comes first.
abbrev pub quiet_since : ℕ → List Step → Bool
quiet_since m [] = false
quiet_since m (d ∷ ds) = cond (length ds + 1 == m) (d.pending == 0) (d.shelved && quiet_since m ds)

abbrev pub frozen_in : Option Stored → List (List Atom)
frozen_in None = []
frozen_in (Some h) = h.frozen

-- one of the ways is that of step m
abbrev pub stands : ℕ → List Led → Bool
stands m ways = list_any (λ b. b.made == m) ways

-- the atoms are hopeless in the view of one of the ways from the top one down to that of step m, or down to the last one if no
-- way is that of step m
abbrev pub hopeless_along : ℕ → List Led → List Atom → Bool
hopeless_along m [] A = false
hopeless_along m (b ∷ ways) A = hopeless b.to A || (not (b.made == m) && hopeless_along m ways A)

abbrev pub IsQuiet : Option Stored → Type 0
IsQuiet None = ⊥
IsQuiet (Some h) = h.frozen ≡ []

-- Each list is hopeless along the ways down to that of step m. For each way above that of step m, the lists that its shelf has
-- frozen are hopeless along the ways below it, down to that of step m. The shelf of step m is kept, and has frozen nothing.
abbrev pub HopelessAlong : ℕ → List Led → List (List Atom) → Type 0
HopelessAlong m [] As = Unit {0}
HopelessAlong m (b ∷ ways) As =
    ((A : List Atom) → In A As → hopeless_along m (b ∷ ways) A ≡ true)
    × (b.made ≡ m → IsQuiet b.shelf)
    × (stands m ways ≡ true → HopelessAlong m ways (frozen_in b.shelf))

-- each way is that of an earlier step than the way above it, and the top way is that of a step before n
abbrev pub Falling : ℕ → List Led → Type 0
Falling n [] = Unit {0}
Falling n (b ∷ ways) = (b.made < n) × Falling b.made ways

abbrev pub owns : List Task → List (List Atom)
owns ts = map (λ t. t.own) ts

-- The step numbers of the undo ways fall, and so do those of the redo ways. Suppose that step m found nothing pending, and
-- that each undo and redo since had a kept shelf. If the way of step m is among the undo ways, `HopelessAlong` holds of the
-- undo ways and the own atoms of the pending tasks. The same is true of the redo ways.
pub record StaysQuiet (s : State) (t : Trail) : Type 0 where
  pub back_falls : Falling (length s.steps + 1) t.back
  pub forth_falls : Falling (length s.steps + 1) t.forth
  pub back_hopeless : (m : ℕ) → quiet_since m s.steps ≡ true → stands m t.back ≡ true → HopelessAlong m t.back (owns s.pending)
  pub forth_hopeless : (m : ℕ) → quiet_since m s.steps ≡ true → stands m t.forth ≡ true → HopelessAlong m t.forth (owns s.pending)
