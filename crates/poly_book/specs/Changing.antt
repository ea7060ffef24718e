-- How a change of a book goes: what it prepares, and what it does to the history.
use Rattle.std.specs.Prelude.{Bool, List, None, Option, Some, [], cond, length, map, nat_le, not, true, vec_capacity, vec_len, ℕ, ◌*◌, ◌++◌, ◌+◌, ◌<◌, ◌∷◌, ◌≡◌, ◌≤◌, ◌⊎◌}
use Rattle.std.specs.Arc.{arc_value}
use Rattle.std.specs.List.{filter}
use Rattle.poly_grid.specs.declared.refusal.Refusal.{Refusal}
use Rattle.poly_grid.specs.declared.refusal.Refusal.TheVariants.{Memory, Spent, TooWide}
use Rattle.poly_design.specs.Changes.{changed, inverse_of}
use Rattle.poly_design.specs.declared.change.Change.{Change}
use Rattle.poly_tiling.specs.Puzzle.{View, is_tiling}
use Rattle.poly_atom.specs.declared.atom.Atom.{Atom}
use Rattle.poly_atom.specs.Atoms.{AllSmall}
use Rattle.poly_atom.specs.Guards.{guards}
use Rattle.poly_atom.specs.Hopeless.{hopeless}
use Rattle.poly_atom.specs.Stairs.{stairs}
use Rattle.poly_place.specs.Right.{IsRight}
use Rattle.poly_place.specs.Spent.{IsSpent as NumbersAreSpent}
use Rattle.poly_catalogue.specs.Listed.{AreOfEither}
use Rattle.poly_undo.specs.declared.step.Step.{Step as Beside}
use Rattle.poly_undo.specs.Steps.{Moves, Steps, newest, next_of}
use Rattle.poly_book.specs.declared.next_tasks.NextTasks.{NextTasks}
use Rattle.poly_book.specs.declared.parts.Parts.{Parts}
use Rattle.poly_book.specs.declared.prepare.Entry.{Entry}
use Rattle.poly_book.specs.declared.prepare.Prepared.{Prepared}
use Rattle.poly_book.specs.declared.prepare.TheConstants.{MAX_CHANGES, MAX_GUARDS, MAX_SHELF}
use Rattle.poly_tasks.specs.declared.shelf.Kept.{Kept}
use Rattle.poly_tasks.specs.declared.shelf.Shelf.{Shelf}
use Rattle.poly_book.specs.declared.step.Kind.{Kind}
use Rattle.poly_book.specs.declared.step.Kind.TheVariants.{Edit, Redo, Undo}
use Rattle.poly_tasks.specs.declared.task.Pending.{Pending}
use Rattle.poly_book.specs.Events.{Event, Leads, hopeless_endings}
use Rattle.poly_book.specs.Events as event
use Rattle.poly_book.specs.Keeps.{state_of}
use Rattle.poly_tasks.specs.Meaning.{IsHeld, own_of, stored_of, tasks_of, way_of}
use Rattle.poly_tasks.specs.Opens.{Opens}
use Rattle.poly_tasks.specs.Shelves.{is_kept, openings, returned}
use Rattle.poly_tasks.specs.Stored.{Stored}
use Rattle.poly_tasks.specs.Tasks.{atoms_of, hopeful}

-- the shelf that a change to the view stores if its inverse has `width` guards; none if the shelf would be too large
abbrev pub shelf_by : View → List (List ℕ) → List (List Atom) → List Pending → ℕ → Option Stored
shelf_by w listed log ps width = cond (nat_le (length ps * width) MAX_SHELF) (Some (record { taken = filter (λ T. not (is_tiling w T)) listed; frozen = map (λ t. atoms_of t) (tasks_of log ps) })) None

-- what a change with the guards `laid` does to the tasks: which ones it opens, which ones go on, and which ones end
pub record AreNext (w : View) (log : List (List Atom)) (ps : List Pending) (laid : List Atom) (stood : Option Stored) (next : ℕ) (t : NextTasks) : Type 0 where
  pub fresh_are : Opens (log ++ laid ∷ []) next w (openings stood (stairs laid)) t.fresh.items
  pub few : next + length t.fresh.items ≤ 4294967296
  pub flags_are : t.flags.items ≡ map (λ p. not (hopeless w (own_of log p.own))) ps
  pub ended_are : t.ended.items ≡ hopeless_endings w (length log + 1) (tasks_of log ps)

-- what a change from one view to another adds and stores, and its effect on the tasks
pub record IsGathered (v w : View) (listed : List (List ℕ)) (log : List (List Atom)) (ps : List Pending) (stood : Option Stored) (next : ℕ) (e : Entry) (t : NextTasks) (h : Option Shelf) : Type 0 where
  pub guards_are : e.guards.items ≡ guards v w
  pub guards_small : AllSmall e.guards.items
  pub returned_are : e.returned.items ≡ returned stood
  pub tasks : AreNext w log ps e.guards.items stood next t
  pub shelf_held : IsHeld log h
  pub shelf_is : stored_of log h ≡ shelf_by w listed log ps (length (guards w v))

-- why a change from one view to another isn't prepared: it is an edit, and it or its inverse has over 20,000 guards; or there
-- were 100,000 changes; or a task number would be over 4,294,967,295; or memory ran out
abbrev pub IsNotGathered : View → View → Kind → ℕ → ℕ → Option Stored → Refusal → Type 0
IsNotGathered v w k count next stood e =
    ((e ≡ TooWide) × (k ≡ Edit) × ((MAX_GUARDS < length (guards v w)) ⊎ (MAX_GUARDS < length (guards w v))))
    ⊎ ((e ≡ Spent) × ((MAX_CHANGES ≤ count) ⊎ (4294967296 < next + length (hopeful w (openings stood (stairs (guards v w))))))) ⊎ (e ≡ Memory)

-- an undo has a change to undo, and a redo has a change to redo
abbrev pub CanNote : Kind → Steps Change Kept → Type 0
CanNote Edit h = Unit {0}
CanNote Undo h = 0 < length h.undo
CanNote Redo h = 0 < length h.redo

-- the history after the change
abbrev pub Noted : Kind → Steps Change Kept → Steps Change Kept → Change → Kept → Type 0
Noted Edit old new x k = (new.undo ≡ newest (old.undo ++ (record { change = x; kept = Some k }) ∷ [])) × (new.redo ≡ [])
Noted Undo old new x k = (stood : Option Kept) × Moves old.undo old.redo new.undo new.redo (Some k) stood
Noted Redo old new x k = (stood : Option Kept) × Moves old.redo old.undo new.redo new.undo (Some k) stood

-- the shelf that is kept with a change, if there is one
abbrev pub shelf_at : List (List Atom) → Option (Beside Change Kept) → Option Stored
shelf_at log None = None
shelf_at log (Some s) = (way_of log s).shelf

-- the shelf that the change opens again, if there is one
abbrev pub stood_by : List (List Atom) → Kind → Steps Change Kept → Option Stored
stood_by log Edit h = None
stood_by log Undo h = shelf_at log (next_of h.undo)
stood_by log Redo h = shelf_at log (next_of h.redo)

abbrev pub shelved_by : List (List Atom) → Kind → Steps Change Kept → Bool
shelved_by log Edit h = true
shelved_by log Undo h = is_kept (stood_by log Undo h)
shelved_by log Redo h = is_kept (stood_by log Redo h)

-- an undo makes the inverse of the next change to undo, and a redo makes the next change to redo
abbrev pub IsTop : Kind → Steps Change Kept → Change → Type 0
IsTop Edit h x = Unit {0}
IsTop Undo h x = (top : Beside Change Kept) × (next_of h.undo ≡ Some top) × (x ≡ inverse_of top.change)
IsTop Redo h x = (top : Beside Change Kept) × (next_of h.redo ≡ Some top) × (x ≡ top.change)

-- what is prepared for a change of the book
pub record IsPrepared (k : Kind) (x : Change) (p : Parts) (e : Entry) (r : Prepared) : Type 0 where
  pub after_is : r.after ≡ changed p.design x
  pub view_is : arc_value r.view ≡ arc_value r.plan.view
  pub leads : Leads (state_of p) x (arc_value r.plan.view)
  pub right : IsRight (arc_value r.plan.view) (changed p.design x)
  pub last : (arc_value r.plan.view).placements ≡ p.table.placements
  pub either : AreOfEither (arc_value r.plan.view) r.plan.delta p.listed
  pub gathered : IsGathered p.scene (arc_value r.plan.view) p.listed p.log p.tasks.items (stood_by p.log k p.history) p.next e r.tasks r.shelf
  pub few_steps : length p.steps.items < MAX_CHANGES
  pub enough : ¬ NumbersAreSpent p.scene.placements (changed p.design x)
  pub room_steps : vec_len p.steps < vec_capacity p.steps
  pub room_endings : vec_len p.endings + length r.tasks.ended.items ≤ vec_capacity p.endings
  pub room_tasks : vec_len p.tasks + length r.tasks.fresh.items ≤ vec_capacity p.tasks

abbrev pub event_of : Kind → Change → View → Event
event_of Edit x w = event.Edit x w
event_of Undo x w = event.Undo w
event_of Redo x w = event.Redo w
