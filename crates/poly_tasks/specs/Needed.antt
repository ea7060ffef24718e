-- Which guards of the log are still read.
use Rattle.std.specs.Arc.{arc_value}
use Rattle.std.specs.List.{All}
use Rattle.std.specs.Prelude.{List, None, Option, Some, ℕ, ◌<◌, ◌≤◌}
use Rattle.poly_design.specs.declared.change.Change.{Change}
use Rattle.poly_undo.specs.declared.step.Step.{Step as Beside}
use Rattle.poly_tasks.specs.Meaning.{edition_of}
use Rattle.poly_tasks.specs.declared.excerpt.Excerpt.{Excerpt}
use Rattle.poly_tasks.specs.declared.shelf.Frozen.{Frozen}
use Rattle.poly_tasks.specs.declared.shelf.Kept.{Kept}
use Rattle.poly_tasks.specs.declared.shelf.Shelf.{Shelf}
use Rattle.poly_tasks.specs.declared.task.Own.{Own}
use Rattle.poly_tasks.specs.declared.task.Own.TheVariants.{Crossed, Listed, Stair as OfStair}
use Rattle.poly_tasks.specs.declared.task.Pending.{Pending}

-- the excerpts are read from no edition before e
abbrev pub AreExcerptsFrom : ℕ → List Excerpt → Type 0
AreExcerptsFrom e xs = All (λ x. e ≤ edition_of x) xs

-- the own atoms are read from no edition before e
abbrev pub IsOwnFrom : ℕ → Own → Type 0
IsOwnFrom e (Listed v i) = Unit {0}
IsOwnFrom e (OfStair s) = e ≤ s.edition
IsOwnFrom e (Crossed b s) = AreExcerptsFrom e (arc_value b).excerpts.items × (e ≤ s.edition)

-- the atoms of a task with these own atoms that was made at this edition are read from no edition before e
pub record IsTaskFrom (e : ℕ) (own : Own) (made : ℕ) : Type 0 where
  pub own_from : IsOwnFrom e own
  pub made_from : e ≤ made

-- the atoms of the frozen task are read from no edition before e; if it has no guards, these are its own atoms alone
pub record IsFrozenFrom (e : ℕ) (f : Frozen) : Type 0 where
  pub own_from : IsOwnFrom e f.own
  pub made_from : 0 < f.count → e ≤ f.made

-- the frozen tasks of the shelf are read from no edition before e
abbrev pub IsShelfFrom : ℕ → Option Shelf → Type 0
IsShelfFrom e None = Unit {0}
IsShelfFrom e (Some h) = All (λ f. IsFrozenFrom e f) h.frozen.items

abbrev pub IsKeptFrom : ℕ → Option Kept → Type 0
IsKeptFrom e None = Unit {0}
IsKeptFrom e (Some k) = IsShelfFrom e k.shelf

abbrev pub IsStepFrom : ℕ → Option (Beside Change Kept) → Type 0
IsStepFrom e None = Unit {0}
IsStepFrom e (Some s) = IsKeptFrom e s.kept

abbrev pub ArePendingFrom : ℕ → List Pending → Type 0
ArePendingFrom e ps = All (λ p. IsTaskFrom e p.own p.made) ps

-- the frozen tasks of all shelves are read from no edition before e
abbrev pub AreKeptFrom : ℕ → List (Beside Change Kept) → Type 0
AreKeptFrom e ss = All (λ s. IsKeptFrom e s.kept) ss
