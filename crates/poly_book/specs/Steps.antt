-- A change that was made.
use Rattle.std.specs.Prelude.{List, length, ◌∷◌, ◌≡◌}
use Rattle.poly_design.specs.Changes.{inverse_of}
use Rattle.poly_design.specs.Edits.{IsAccepted}
use Rattle.poly_design.specs.declared.change.Change.{Change}
use Rattle.poly_design.specs.declared.edit.Edit.{Edit}
use Rattle.poly_tiling.specs.Puzzle.{View}
use Rattle.poly_book.specs.declared.step.Done.{Done}
use Rattle.poly_book.specs.declared.step.Kind.{Kind}
use Rattle.poly_book.specs.declared.step.Kind.TheVariants as kind
use Rattle.poly_book.specs.Events.{Leads, step}
use Rattle.poly_book.specs.Partition.{Becomes}
use Rattle.poly_book.specs.States.{State}
use Rattle.poly_tasks.specs.Stored.{Way}
use Rattle.poly_book.specs.Changing.{event_of}

-- the change leads to a design, and `t` is the state after the event of the change, up to the order of the listed tilings;
-- `done` has the edition after the change, and the step that was made
pub record IsDone (k : Kind) (x : Change) (s t : State) (done : Done) : Type 0 where
  pub view : View
  pub leads : Leads s x view
  pub becomes : Becomes (step s (event_of k x view)) t
  pub place : done.place ≡ length t.steps
  pub last : t.steps ≡ done.step ∷ s.steps

-- the edit was accepted, and the change that it asks for was made
pub record IsEdited (e : Edit) (s t : State) (done : Done) : Type 0 where
  pub change : Change
  pub accepted : IsAccepted s.design e change
  pub made : IsDone kind.Edit change s t done

-- the newest change to undo was undone
pub record IsUndone (s t : State) (done : Done) : Type 0 where
  pub way : Way
  pub rest : List Way
  pub top : s.back ≡ way ∷ rest
  pub made : IsDone kind.Undo (inverse_of way.change) s t done

-- of the changes to redo, the one that was undone last was redone
pub record IsRedone (s t : State) (done : Done) : Type 0 where
  pub way : Way
  pub rest : List Way
  pub top : s.forth ≡ way ∷ rest
  pub made : IsDone kind.Redo way.change s t done
