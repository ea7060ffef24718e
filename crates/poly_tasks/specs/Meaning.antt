-- What a pending task, a frozen task and a shelf store: where their atoms are read.
use Rattle.std.specs.Arc.{arc_value}
use Rattle.std.specs.List.{filter, list_any}
use Rattle.std.specs.Prelude.{List, None, Option, Some, [], drop, length, map, reverse, slice_index_or, take, ℕ, ◌++◌, ◌<◌, ◌∷◌, ◌≡◌, ◌≤◌}
use Rattle.poly_design.specs.declared.change.Change.{Change}
use Rattle.poly_tiling.specs.Puzzle.{View}
use Rattle.poly_atom.specs.declared.atom.Atom.{Atom}
use Rattle.poly_atom.specs.Hopeless.{hopeless}
use Rattle.poly_atom.specs.Logs.{IsStairOf, flat, stair_of}
use Rattle.poly_lists.specs.Words.{is_other}
use Rattle.poly_undo.specs.declared.step.Step.{Step as Kept_step}
use Rattle.poly_undo.specs.Steps.{Steps}
use Rattle.poly_tasks.specs.declared.base.Base.{Base}
use Rattle.poly_tasks.specs.declared.excerpt.Excerpt.{Excerpt}
use Rattle.poly_tasks.specs.declared.excerpt.Excerpt.TheVariants.{Guards, Stair as StairExcerpt}
use Rattle.poly_tasks.specs.declared.laid.Laid.{Laid}
use Rattle.poly_tasks.specs.declared.shelf.Frozen.{Frozen}
use Rattle.poly_tasks.specs.declared.shelf.Kept.{Kept}
use Rattle.poly_tasks.specs.declared.shelf.Shelf.{Shelf}
use Rattle.poly_tasks.specs.declared.task.Own.{Own}
use Rattle.poly_tasks.specs.declared.task.Own.TheVariants.{Crossed, Listed, Stair as OfStair}
use Rattle.poly_tasks.specs.declared.task.Pending.{Pending}
use Rattle.poly_tasks.specs.Judged.{is_has}
use Rattle.poly_tasks.specs.Tasks.{Spares, Task}
use Rattle.poly_tasks.specs.Stored.{Stored, Way}

-- the atoms of an excerpt of the log
abbrev pub excerpt_of : List (List Atom) → Excerpt → List Atom
excerpt_of log (Guards e n) = take n (flat (drop e log))
excerpt_of log (StairExcerpt s) = stair_of log s

-- the atoms of the excerpts, one after another
abbrev pub excerpts_of : List (List Atom) → List Excerpt → List Atom
excerpts_of log [] = []
excerpts_of log (x ∷ xs) = excerpt_of log x ++ excerpts_of log xs

-- the log has what the excerpt is read from
abbrev pub IsExcerpt : List (List Atom) → Excerpt → Type 0
IsExcerpt log (Guards e n) = (e ≤ length log) × (n ≤ length (flat (drop e log)))
IsExcerpt log (StairExcerpt s) = IsStairOf log s

abbrev pub AreExcerpts : List (List Atom) → List Excerpt → Type 0
AreExcerpts log [] = Unit {0}
AreExcerpts log (x ∷ xs) = IsExcerpt log x × AreExcerpts log xs

-- the first edition that the excerpt is read from
abbrev pub edition_of : Excerpt → ℕ
edition_of (Guards e n) = e
edition_of (StairExcerpt s) = s.edition

-- the atoms of the base
abbrev pub base_of : List (List Atom) → Base → List Atom
base_of log b = slice_index_or b.lists b.index [] ++ excerpts_of log b.excerpts.items

-- the base's atoms can be read, and it has those of them that are no `Lacks`
pub record IsBase (log : List (List Atom)) (b : Base) : Type 0 where
  pub index : b.index < length b.lists
  pub excerpts : AreExcerpts log b.excerpts.items
  pub others : b.others.items ≡ filter is_other (base_of log b)

abbrev pub own_of : List (List Atom) → Own → List Atom
own_of log (Listed v i) = slice_index_or v i []
own_of log (OfStair s) = stair_of log s
own_of log (Crossed b s) = base_of log (arc_value b) ++ stair_of log s

-- the own atoms, but for each `Lacks`
abbrev pub brief_of : List (List Atom) → Own → List Atom
brief_of log o = filter is_other (own_of log o)

-- the own atoms can be read: there is such a list or base, and the log has the stair that they are or end with
abbrev pub IsOwn : List (List Atom) → Own → Type 0
IsOwn log (Listed v i) = i < length v
IsOwn log (OfStair s) = IsStairOf log s
IsOwn log (Crossed b s) = IsBase log (arc_value b) × IsStairOf log s

-- the task, with the guards of every change since it was made
abbrev pub task_of : List (List Atom) → Pending → Task
task_of log p = record { number = p.number; own = own_of log p.own; laid = flat (drop p.made log) }

abbrev pub tasks_of : List (List Atom) → List Pending → List Task
tasks_of log ps = map (λ p. task_of log p) ps

-- the task's own atoms can be read, and the task was made at an edition that the log has
pub record IsTask (log : List (List Atom)) (p : Pending) : Type 0 where
  pub own : IsOwn log p.own
  pub made : p.made ≤ length log

abbrev pub AreTasks : List (List Atom) → List Pending → Type 0
AreTasks log [] = Unit {0}
AreTasks log (p ∷ ps) = IsTask log p × AreTasks log ps

-- each task was made at edition n
abbrev pub AreFresh : ℕ → List Pending → Type 0
AreFresh n [] = Unit {0}
AreFresh n (p ∷ ps) = (p.made ≡ n) × AreFresh n ps

-- the guards that were laid on the frozen task: the first `f.count` ones that the log has since the task was made
abbrev pub laid_of : List (List Atom) → Frozen → List Atom
laid_of log f = take f.count (flat (drop f.made log))

-- the frozen task's own atoms, and the guards that were laid on it
abbrev pub frozen_of : List (List Atom) → Frozen → List Atom
frozen_of log f = own_of log f.own ++ laid_of log f

-- the frozen task's atoms, but for each `Lacks`
abbrev pub frozen_brief : List (List Atom) → Frozen → List Atom
frozen_brief log f = brief_of log f.own ++ filter is_other (laid_of log f)

-- its own atoms, but for each `Lacks`, and what the guards that were laid on it ask for
abbrev pub frozen_asks : List (List Atom) → Frozen → List Atom
frozen_asks log f = brief_of log f.own ++ filter is_has (filter is_other (laid_of log f))

-- these are the guards that the log has, but for each `Lacks`, and how the view judges each of them alone
pub record IsLaid (w : View) (log : List (List Atom)) (l : Laid) : Type 0 where
  pub others : l.others.items ≡ filter is_other (take l.count (flat (drop l.made log)))
  pub asks : l.asks.items ≡ filter is_has l.others.items
  pub spoils : l.spoils ≡ list_any (λ a. hopeless w (a ∷ [])) l.others.items

-- the log has what the frozen task's atoms are read from, and none of them lacks a placement that its own atoms ask for
pub record IsFrozen (log : List (List Atom)) (f : Frozen) : Type 0 where
  pub own : IsOwn log f.own
  pub made : f.made ≤ length log
  pub count : f.count ≤ length (flat (drop f.made log))
  pub spares : Spares (own_of log f.own) (frozen_of log f)

abbrev pub AreFrozen : List (List Atom) → List Frozen → Type 0
AreFrozen log [] = Unit {0}
AreFrozen log (f ∷ fs) = IsFrozen log f × AreFrozen log fs

abbrev pub stored_of : List (List Atom) → Option Shelf → Option Stored
stored_of log None = None
stored_of log (Some h) = Some (record { taken = h.tilings.items; frozen = map (λ f. frozen_of log f) h.frozen.items })

-- the log has what the frozen tasks of the shelf are read from
abbrev pub IsHeld : List (List Atom) → Option Shelf → Type 0
IsHeld log None = Unit {0}
IsHeld log (Some h) = AreFrozen log h.frozen.items

abbrev pub IsHeldBy : List (List Atom) → Option Kept → Type 0
IsHeldBy log None = Unit {0}
IsHeldBy log (Some k) = IsHeld log k.shelf

abbrev pub IsHeldAt : List (List Atom) → Option (Kept_step Change Kept) → Type 0
IsHeldAt log None = Unit {0}
IsHeldAt log (Some s) = IsHeldBy log s.kept

-- the log has what the frozen tasks of all shelves are read from
abbrev pub AreHeldBy : List (List Atom) → List (Kept_step Change Kept) → Type 0
AreHeldBy log [] = Unit {0}
AreHeldBy log (s ∷ ss) = IsHeldBy log s.kept × AreHeldBy log ss

abbrev pub AreHeld : List (List Atom) → Steps Change Kept → Type 0
AreHeld log h = AreHeldBy log h.undo × AreHeldBy log h.redo

abbrev pub way_by : List (List Atom) → Change → Option Kept → Way
way_by log x None = record { change = x; made = 0; shelf = None }
way_by log x (Some k) = record { change = x; made = k.made; shelf = stored_of log k.shelf }

abbrev pub way_of : List (List Atom) → Kept_step Change Kept → Way
way_of log s = way_by log s.change s.kept

-- the newest first
abbrev pub ways_of : List (List Atom) → List (Kept_step Change Kept) → List Way
ways_of log ss = map (λ s. way_of log s) (reverse ss)
