-- What holds of every book, and the runs of events that keep it.
use Rattle.std.specs.Prelude.{List, [], ◌∷◌, ◌≡◌}
use Rattle.poly_book.specs.Accounts.{EachIsPendingOrEnded}
use Rattle.poly_tasks.specs.Tasks.{Rising}
use Rattle.poly_book.specs.States.{State}
use Rattle.poly_book.specs.Events.{Event, Goes, step}
use Rattle.poly_book.specs.Partition.{Becomes}
use Rattle.poly_book.specs.Replay.{Replay}
use Rattle.poly_book.specs.Trails.{Consistent, Trail}
use Rattle.poly_book.specs.Quiet.{StaysQuiet}

-- The tilings are shared out; the shelves are right; the steps lead to the design; undoing a change that found nothing
-- pending, or redoing a change whose undo found nothing pending, leaves nothing pending if each undo and redo since had a kept
-- shelf, by `StaysQuiet`; the tasks' numbers ascend, below the number of the next task; each task that was ever handed out is
-- pending or has exactly one ending, and never both.
pub record Whole (s : State) : Type 0 where
  pub trail : Trail
  pub consistent : Consistent s trail
  pub stays_quiet : StaysQuiet s trail
  pub replay : Replay s
  pub rising : Rising 0 s.pending s.next
  pub accounts : EachIsPendingOrEnded s

-- the events lead from one state to another; the order of the listed tilings means nothing
abbrev pub Runs : State → List Event → State → Type 0
Runs s [] t = t ≡ s
Runs s (e ∷ es) t = (u : State) × Goes s e × Becomes (step s e) u × Runs u es t
