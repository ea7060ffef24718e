-- The tasks that are opened for lists of atoms, as a book stores them.
use Rattle.std.specs.Prelude.{List, [], ℕ, ◌++◌, ◌∷◌, ◌≡◌}
use Rattle.poly_tiling.specs.Puzzle.{View}
use Rattle.poly_atom.specs.declared.atom.Atom.{Atom}
use Rattle.poly_tasks.specs.declared.fresh.Buffers.{Buffers}
use Rattle.poly_tasks.specs.declared.task.Pending.{Pending}
use Rattle.poly_tasks.specs.Judged.{IsLead, named}
use Rattle.poly_tasks.specs.Tasks.{hopeful, tasks_from}
use Rattle.poly_tasks.specs.Meaning.{AreTasks, IsLaid, tasks_of}
use Rattle.poly_tasks.specs.Spots.{IsSpots}

-- with the log, `ps` are the tasks of the lists that aren't hopeless, numbered from `next` on
pub record Opens (log : List (List Atom)) (next : ℕ) (w : View) (all : List (List Atom)) (ps : List Pending) : Type 0 where
  pub are : AreTasks log ps
  pub tasks : tasks_of log ps ≡ tasks_from next (hopeful w all)

-- the tasks so far, and what is still to be opened
pub record Opening (log : List (List Atom)) (next n : ℕ) (w : View) (all rest : List (List Atom)) (ps : List Pending) : Type 0 where
  pub are : AreTasks log ps
  pub tasks : tasks_of log ps ++ tasks_from n (hopeful w rest) ≡ tasks_from next (hopeful w all)

-- what the buffers have to have before the stairs of a change with the guards `g` are opened after a frozen task
pub record AreReady (w : View) (log : List (List Atom)) (g : List Atom) (b : Buffers) : Type 0 where
  pub none : b.none ≡ [] ∷ []
  pub harmed : b.harmed.items ≡ w.pins ++ named g
  pub laid : IsLaid w log b.laid
  pub spots : IsSpots log b.spots
  pub lead : IsLead log b.lead
