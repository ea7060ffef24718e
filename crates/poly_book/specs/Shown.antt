-- What a book's fields mean.
use Rattle.std.specs.Prelude.{List, reverse, ℕ}
use Rattle.poly_design.specs.Layout.{Layout}
use Rattle.poly_design.specs.declared.change.Change.{Change}
use Rattle.poly_tiling.specs.Puzzle.{View}
use Rattle.poly_atom.specs.declared.atom.Atom.{Atom}
use Rattle.poly_undo.specs.Steps.{Steps}
use Rattle.poly_tasks.specs.declared.shelf.Kept.{Kept}
use Rattle.poly_book.specs.declared.step.Step.{Step}
use Rattle.poly_book.specs.declared.step.Ending.{Ending}
use Rattle.poly_tasks.specs.declared.task.Pending.{Pending}
use Rattle.poly_book.specs.States.{State}
use Rattle.poly_tasks.specs.Meaning.{tasks_of, ways_of}

-- what the fields show
abbrev pub shown : Layout → Layout → View → List (List ℕ) → List (List Atom) → List Pending → ℕ → Steps Change Kept → List Step → List Ending → State
shown o d v ls log ps n h ss es = record {
  opened = o;
  design = d;
  view = v;
  listed = ls;
  pending = tasks_of log ps;
  next = n;
  back = ways_of log h.undo;
  forth = ways_of log h.redo;
  steps = reverse ss;
  endings = es;
}
