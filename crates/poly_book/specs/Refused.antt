-- Why events are refused.
use Rattle.std.specs.Prelude.{None, Some, [], false, length, List, true, ℕ, ◌<◌, ◌∷◌, ◌≡◌, ◌≤◌, ◌⊎◌}
use Rattle.poly_grid.specs.declared.refusal.Refusal.{Refusal}
use Rattle.poly_grid.specs.declared.refusal.Refusal.TheVariants.{CatalogueFull, DoesNotHold, Gone, Memory, NothingToRedo, NothingToUndo, Spent, TooLarge, TooWide}
use Rattle.poly_design.specs.Changes.{changed, inverse_of}
use Rattle.poly_design.specs.Edits.{IsAccepted, IsRefused}
use Rattle.poly_design.specs.declared.change.Change.{Change}
use Rattle.poly_design.specs.declared.edit.Edit.{Edit}
use Rattle.poly_tiling.specs.Puzzle.{View}
use Rattle.poly_tiling.specs.declared.lister.TheConstants.{MAX_TILINGS}
use Rattle.poly_atom.specs.Guards.{guards}
use Rattle.poly_place.specs.Spent.{IsSpent as NumbersAreSpent}
use Rattle.poly_report.specs.Trees.{Plan}
use Rattle.poly_report.specs.Sizes.{fits}
use Rattle.poly_report.specs.Holds.{holds}
use Rattle.poly_book.specs.declared.prepare.TheConstants.{MAX_CHANGES, MAX_GUARDS}
use Rattle.poly_book.specs.declared.step.Kind.{Kind}
use Rattle.poly_book.specs.declared.step.Kind.TheVariants as kind
use Rattle.poly_book.specs.Amounts.{IsWide}
use Rattle.poly_book.specs.Changing.{event_of}
use Rattle.poly_book.specs.Events.{Leads, Report, step}
use Rattle.poly_book.specs.States.{State}
use Rattle.poly_tasks.specs.Stored.{Way}
use Rattle.poly_tasks.specs.Tasks.{Task, atoms_of, find_task}

-- the change leads to a view for which `P` holds
abbrev pub LeadsTo : State → Change → (View → Type 0) → Type 0
LeadsTo s x P = (w : View) × Leads s x w × P w

-- the change or its inverse has over 20,000 guards: the two designs alone say so, and so do the guards between their views
abbrev pub IsTooWide : Change → State → Type 0
IsTooWide x s = IsWide s.design (changed s.design x) × LeadsTo s x (λ w. (MAX_GUARDS < length (guards s.view w)) ⊎ (MAX_GUARDS < length (guards w s.view)))

-- There were 100,000 changes; or a new task would get a number over 4,294,967,295; or the placements that have numbers in the
-- view, and the placements and pins of the design after the change, are together more than there are numbers.
abbrev pub IsSpent : Kind → Change → State → Type 0
IsSpent k x s =
    (MAX_CHANGES ≤ length s.steps)
    ⊎ LeadsTo s x (λ w. 4294967296 < (step s (event_of k x w)).next)
    ⊎ NumbersAreSpent s.view.placements (changed s.design x)

-- More than 1,000,000 tilings would be listed, although fewer than 100,000 changes were made, no new task would get a number
-- over 4,294,967,295, and the placement numbers suffice.
abbrev pub IsFull : Kind → Change → State → Type 0
IsFull k x s =
    LeadsTo s x (λ w. (MAX_TILINGS < length (step s (event_of k x w)).listed) × (length s.steps < MAX_CHANGES) × ((step s (event_of k x w)).next ≤ 4294967296) × (¬ NumbersAreSpent s.view.placements (changed s.design x)))

-- why a change of the kind isn't made
abbrev pub IsNotMade : Kind → Change → State → Refusal → Type 0
IsNotMade kind.Edit x s e = ((e ≡ TooWide) × IsTooWide x s) ⊎ ((e ≡ Spent) × IsSpent kind.Edit x s) ⊎ (e ≡ Memory)
IsNotMade kind.Undo x s e = ((e ≡ Spent) × IsSpent kind.Undo x s) ⊎ ((e ≡ CatalogueFull) × IsFull kind.Undo x s) ⊎ (e ≡ Memory)
IsNotMade kind.Redo x s e = ((e ≡ Spent) × IsSpent kind.Redo x s) ⊎ ((e ≡ CatalogueFull) × IsFull kind.Redo x s) ⊎ (e ≡ Memory)

-- the edit isn't accepted, or its change isn't made, or memory ran out
abbrev pub IsNotEdited : Edit → State → Refusal → Type 0
IsNotEdited edit s e = IsRefused s.design edit e ⊎ ((x : Change) × IsAccepted s.design edit x × IsNotMade kind.Edit x s e) ⊎ (e ≡ Memory)

-- nothing is left to undo, or the inverse of the newest change to undo isn't made
abbrev pub IsNotUndone : State → Refusal → Type 0
IsNotUndone s e = ((e ≡ NothingToUndo) × (s.back ≡ [])) ⊎ ((way : Way) × (rest : List Way) × (s.back ≡ way ∷ rest) × IsNotMade kind.Undo (inverse_of way.change) s e)

-- nothing is left to redo, or the change that was undone last isn't made
abbrev pub IsNotRedone : State → Refusal → Type 0
IsNotRedone s e = ((e ≡ NothingToRedo) × (s.forth ≡ [])) ⊎ ((way : Way) × (rest : List Way) × (s.forth ≡ way ∷ rest) × IsNotMade kind.Redo way.change s e)

-- The report would open a task whose number is over 4,294,967,295; or it would open none, and more than 1,000,000 tilings would
-- be listed; or memory ran out.
abbrev pub IsOver : ℕ → Plan → State → Refusal → Type 0
IsOver k tree s e =
    ((e ≡ Spent) × (4294967296 < (step s (Report k tree)).next))
    ⊎ ((e ≡ CatalogueFull) × (MAX_TILINGS < length (step s (Report k tree)).listed) × ((step s (Report k tree)).next ≤ 4294967296)) ⊎ (e ≡ Memory)

-- The task isn't pending; or the tree doesn't fit; or it fits but doesn't hold; or a limit would be passed; or memory ran out.
abbrev pub IsNotApplied : ℕ → Plan → State → Refusal → Type 0
IsNotApplied k tree s e =
    ((e ≡ Gone) × (find_task k s.pending ≡ None))
    ⊎ ((t : Task) × (find_task k s.pending ≡ Some t) ×
    (((e ≡ TooLarge) × (fits tree ≡ false)) ⊎ ((e ≡ DoesNotHold) × (fits tree ≡ true) × (holds s.view (atoms_of t) tree ≡ false))))
    ⊎ IsOver k tree s e
