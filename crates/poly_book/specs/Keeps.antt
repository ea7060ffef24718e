-- What always holds of the fields of a book.
use Rattle.std.specs.Prelude.{List, length, ℕ, ◌+◌, ◌<◌, ◌≡◌, ◌≤◌}
use Rattle.poly_design.specs.Layout.{Layout}
use Rattle.poly_design.specs.declared.change.Change.{Change}
use Rattle.poly_tiling.specs.Names.{Grown}
use Rattle.poly_tiling.specs.Puzzle.{View}
use Rattle.poly_atom.specs.declared.atom.Atom.{Atom}
use Rattle.poly_place.specs.Right.{IsRight}
use Rattle.poly_undo.specs.Steps.{Steps}
use Rattle.poly_undo.specs.declared.history.TheConstants.{MAX_STEPS}
use Rattle.poly_book.specs.declared.prepare.TheConstants.{MAX_CHANGES}
use Rattle.poly_book.specs.declared.parts.Parts.{Parts}
use Rattle.poly_tasks.specs.declared.register.Register.{Register}
use Rattle.poly_tasks.specs.declared.shelf.Kept.{Kept}
use Rattle.poly_book.specs.declared.step.Step.{Step}
use Rattle.poly_book.specs.declared.step.Ending.{Ending}
use Rattle.poly_tasks.specs.declared.task.Pending.{Pending}
use Rattle.poly_tasks.specs.Mapped.{AreNotedBelow}
use Rattle.poly_book.specs.Shown.{shown}
use Rattle.poly_tasks.specs.Meaning.{AreHeld, AreTasks, tasks_of}
use Rattle.poly_book.specs.States.{State}
use Rattle.poly_tasks.specs.Tasks.{AreAlive, AreSparing}
use Rattle.poly_book.specs.Whole.{Whole}

-- `Whole` holds of what the fields show; the table is right for the design and has at least the view's numbers; each task
-- was made at an edition that the log has, is noted in the maps under each of its own atoms if its number is less than
-- `m.below`, isn't hopeless by its own atoms, and lacks no placement that these ask for; the log has what they are read from;
-- `m.below` is at most the number of the next task; the log has one list of guards for each step; numbers and editions are
-- within their limits; endings and pending tasks together are fewer than the number of the next task; the log has what the
-- frozen tasks of the history's shelves are read from; the history has at most 256 steps.
pub record KeepsOf (m : Register) (o d : Layout) (v table : View) (ls : List (List ℕ)) (log : List (List Atom)) (ps : List Pending) (n : ℕ) (h : Steps Change Kept) (ss : List Step) (es : List Ending) : Type 0 where
  pub whole : Whole (shown o d v ls log ps n h ss es)
  pub right : IsRight table d
  pub grown : Grown v table
  pub tasks : AreTasks log ps
  pub alive : AreAlive v (tasks_of log ps)
  pub sparing : AreSparing (tasks_of log ps)
  pub mapped : AreNotedBelow m.below m.maps log ps
  pub below : m.below ≤ n
  pub log_length : length log ≡ length ss
  pub few_steps : length ss ≤ MAX_CHANGES
  pub few_tasks : n ≤ 4294967296
  pub numbered : length es + length ps < n
  pub held : AreHeld log h
  pub few_ways : length h.undo + length h.redo ≤ MAX_STEPS

-- the state that the fields show
abbrev pub state_of : Parts → State
state_of p = shown p.opened p.design p.scene p.listed p.log p.tasks.items p.next p.history p.steps.items p.endings.items

abbrev pub Keeps : Parts → Type 0
Keeps p = KeepsOf p.register p.opened p.design p.scene p.table p.listed p.log p.tasks.items p.next p.history p.steps.items p.endings.items
