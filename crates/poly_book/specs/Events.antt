-- What happens to a book.
use Rattle.std.specs.List.{filter}
use Rattle.std.specs.Prelude.{Bool, List, None, Option, Some, [], cond, length, map, not, true, ℕ, ◌&&◌, ◌++◌, ◌+◌, ◌∷◌}
use Rattle.poly_design.specs.Changes.{HasBefore, changed, inverse_of}
use Rattle.poly_design.specs.Limits.{IsDesign}
use Rattle.poly_design.specs.declared.change.Change.{Change}
use Rattle.poly_tiling.specs.Puzzle.{View, is_tiling}
use Rattle.poly_tiling.specs.Names.{Names, WellNamed}
use Rattle.poly_tiling.specs.Shows.{Shows}
use Rattle.poly_atom.specs.Guards.{guards}
use Rattle.poly_atom.specs.Stairs.{stairs}
use Rattle.poly_atom.specs.Hopeless.{hopeless}
use Rattle.poly_report.specs.Trees.{Plan}
use Rattle.poly_report.specs.Sizes.{fits}
use Rattle.poly_report.specs.Holds.{holds}
use Rattle.poly_report.specs.Leaves.{rests, tilings}
use Rattle.poly_book.specs.declared.step.Kind.{Kind}
use Rattle.poly_book.specs.declared.step.Kind.TheVariants as kind
use Rattle.poly_book.specs.declared.step.Ending.{Ending}
use Rattle.poly_book.specs.declared.step.Ending.TheVariants.{Cut, Hopeless}
use Rattle.poly_tasks.specs.Tasks.{Task, atoms_of, drop_task, find_task, hopeful, lay, tasks_from}
use Rattle.poly_book.specs.States.{State}
use Rattle.poly_tasks.specs.Stored.{Stored, Way}
use Rattle.poly_book.specs.Ways.{newest, way_back}
use Rattle.poly_tasks.specs.Shelves.{is_kept, openings, returned}
use Rattle.poly_undo.specs.declared.history.TheConstants.{MAX_STEPS}

-- A change comes with the view of the design that it leads to.
pub data Event : Type 0 where
  Edit : Change → View → Event
  Undo : View → Event
  Redo : View → Event
  Report : ℕ → Plan → Event

-- the endings of the tasks whose own atoms are hopeless in a view
abbrev pub hopeless_endings : View → ℕ → List Task → List Ending
hopeless_endings w edition ts = map (λ t. Hopeless t.number edition) (filter (λ t. hopeless w t.own) ts)

-- The state after a change. The listed tilings that are still tilings stay, and those of the shelf `h` are listed again. Each
-- pending task gets the guards of the change, or ends if its own atoms are hopeless then. New tasks are opened.
abbrev pub moved : State → Kind → Change → View → Option Stored → Bool → List Way → List Way → State
moved s k x w h shelved back forth =
    let g = guards s.view w in
    let opened = hopeful w (openings h (stairs g)) in
    record {
      opened = s.opened;
      design = changed s.design x;
      view = w;
      listed = filter (λ T. is_tiling w T) s.listed ++ returned h;
      pending = filter (λ t. not (hopeless w t.own)) (map (λ t. lay g t) s.pending) ++ tasks_from s.next opened;
      next = s.next + length opened;
      back = back;
      forth = forth;
      steps = record { kind = k; change = x; pending = length s.pending; shelved = shelved } ∷ s.steps;
      endings = s.endings ++ hopeless_endings w (length s.steps + 1) s.pending;
    }

abbrev pub undone : State → View → List Way → State
undone s w [] = s
undone s w (b ∷ ways) = moved s kind.Undo (inverse_of b.change) w b.shelf (is_kept b.shelf) ways (way_back s b.change w ∷ s.forth)

abbrev pub redone : State → View → List Way → State
redone s w [] = s
redone s w (b ∷ ways) = moved s kind.Redo b.change w b.shelf (is_kept b.shelf) (newest MAX_STEPS (way_back s b.change w ∷ s.back)) ways

-- the task ends, the tree's tilings are listed, and the tree's rests become tasks, except the hopeless ones
abbrev pub cut : State → ℕ → Task → Plan → State
cut s k t tree =
    let opened = hopeful s.view (rests s.view (atoms_of t) tree) in
    record s {
      listed = s.listed ++ tilings s.view (atoms_of t) tree;
      pending = drop_task k s.pending ++ tasks_from s.next opened;
      next = s.next + length opened;
      endings = s.endings ++ Cut k ∷ [];
    }

-- a report whose tree doesn't fit or hold, or whose task isn't pending, changes nothing
abbrev pub handed_in : State → ℕ → Option Task → Plan → State
handed_in s k None tree = s
handed_in s k (Some t) tree = cond (fits tree && holds s.view (atoms_of t) tree) (cut s k t tree) s

abbrev pub step : State → Event → State
step s (Edit x w) = moved s kind.Edit x w None true (newest MAX_STEPS (way_back s x w ∷ s.back)) []
step s (Undo w) = undone s w s.back
step s (Redo w) = redone s w s.forth
step s (Report k tree) = handed_in s k (find_task k s.pending) tree

-- The change finds what it is to replace, it makes a design, and the view shows that design under numbers that continue
-- the earlier ones.
pub record Leads (s : State) (x : Change) (w : View) : Type 0 where
  pub before : HasBefore s.design x
  pub design : IsDesign (changed s.design x)
  pub well : WellNamed w
  pub shows : Shows w (changed s.design x)
  pub names : Names s.view w

-- If there is a first way, the change that `f` makes of the way's change leads to the view.
abbrev pub LeadsBy : State → (Change → Change) → List Way → View → Type 0
LeadsBy s f [] w = Unit {0}
LeadsBy s f (b ∷ ways) w = Leads s (f b.change) w

-- if the event makes a change, the change can be made, and the event's view shows the design after it
abbrev pub Goes : State → Event → Type 0
Goes s (Edit x w) = Leads s x w
Goes s (Undo w) = LeadsBy s inverse_of s.back w
Goes s (Redo w) = LeadsBy s (λ x. x) s.forth w
Goes s (Report k tree) = Unit {0}
