-- What is proved of books.
use Rattle.std.specs.List.{list_any}
use Rattle.std.specs.Prelude.{List, Some, [], true, ℕ, ◌∷◌, ◌≡◌}
use Rattle.poly_design.specs.Layout.{Layout}
use Rattle.poly_design.specs.Limits.{IsDesign}
use Rattle.poly_tiling.specs.Lists.{same_list}
use Rattle.poly_tiling.specs.Puzzle.{View, is_tiling}
use Rattle.poly_tiling.specs.Names.{WellNamed}
use Rattle.poly_tiling.specs.Shows.{Shows}
use Rattle.poly_report.specs.Trees.{Plan}
use Rattle.poly_report.specs.Holds.{holds}
use Rattle.poly_tasks.specs.Tasks.{Task, atoms_of, find_task}
use Rattle.poly_book.specs.States.{State, opening}
use Rattle.poly_tasks.specs.Stored.{Way}
use Rattle.poly_book.specs.Ways.{shelf_of}
use Rattle.poly_tasks.specs.Shelves.{is_kept}
use Rattle.poly_book.specs.Events.{Event, Goes, Redo, Undo, step}
use Rattle.poly_book.specs.Partition.{Becomes, Complete}
use Rattle.poly_book.specs.Quiet.{quiet_since}
use Rattle.poly_book.specs.Whole.{Runs, Whole}

-- `Whole` holds of the opening state of a design, with a well-named view that shows the design.
abbrev pub OpeningsAreWhole : Type 0
OpeningsAreWhole = (d : Layout) (v : View) → IsDesign d → WellNamed v → Shows v d → Whole (opening d v)

-- If `Whole` holds of a state, it holds of the state after an event that can happen there.
abbrev pub StepsKeepWhole : Type 0
StepsKeepWhole = (s t : State) (e : Event) → Whole s → Goes s e → Becomes (step s e) t → Whole t

-- If `Whole` holds of a state, it holds of the state after a run.
abbrev pub RunsKeepWhole : Type 0
RunsKeepWhole = (s t : State) (es : List Event) → Whole s → Runs s es t → Whole t

-- Whatever happens, a listed tiling that is still a tiling stays listed.
abbrev pub ListedStay : Type 0
ListedStay = (s : State) (e : Event) (T : List ℕ) →
    list_any (λ U. same_list U T) s.listed ≡ true → is_tiling (step s e).view T ≡ true → list_any (λ U. same_list U T) (step s e).listed ≡ true

-- A tree that holds for its pending task holds as long as the task is pending.
abbrev pub ReportsKeepHolding : Type 0
ReportsKeepHolding = (s t : State) (es : List Event) (k : ℕ) (a b : Task) (tree : Plan) → Whole s → Runs s es t →
    find_task k s.pending ≡ Some a → holds s.view (atoms_of a) tree ≡ true →
    find_task k t.pending ≡ Some b → holds t.view (atoms_of b) tree ≡ true

-- Undoing a change that found nothing pending leaves nothing pending, if each undo and redo since had a kept shelf.
abbrev pub QuietUndo : Type 0
QuietUndo = (s : State) (w : View) (b : Way) (ways : List Way) → Whole s → Goes s (Undo w) →
    s.back ≡ b ∷ ways → quiet_since b.made s.steps ≡ true → Complete (step s (Undo w))

-- Redoing a change whose undo found nothing pending leaves nothing pending, if each undo and redo since had a kept shelf.
abbrev pub QuietRedo : Type 0
QuietRedo = (s : State) (w : View) (b : Way) (ways : List Way) → Whole s → Goes s (Redo w) →
    s.forth ≡ b ∷ ways → quiet_since b.made s.steps ≡ true → Complete (step s (Redo w))

-- A change that finds nothing pending has its shelf kept.
abbrev pub QuietShelvesAreKept : Type 0
QuietShelvesAreKept = (s : State) (w : View) → s.pending ≡ [] → is_kept (shelf_of s w) ≡ true
