-- The state of a session, read from the state of its book.
use Rattle.std.specs.Prelude.{Bool, List, None, length, map, reverse}
use Rattle.poly_design.specs.declared.change.Change.{Change}
use Rattle.poly_book.specs.States.{State as Book}
use Rattle.poly_tasks.specs.Stored.{Way}
use Rattle.poly_cli.specs.States.{State}

-- the changes of the steps that can be undone, or of those that can be redone; the last change is the next to be undone or
-- redone
abbrev pub changes_of : List Way → List Change
changes_of ways = reverse (map (λ w. w.change) ways)

abbrev pub session_of : Book → Bool → State
session_of b settled = record { design = b.design; edition = length b.steps; undo = changes_of b.back; redo = changes_of b.forth; settled = settled; failed = None }
