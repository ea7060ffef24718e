use Rattle.std.proofs.Common.{subst}
use Rattle.std.specs.Prelude.{IfOk}
use Rattle.std.proofs.lemmas.Result.{IfErr-weaker, IfOk-weaker}
use Rattle.poly_book.specs.Amounts.{UndoIsFull}
use Rattle.poly_book.specs.Keeps.{state_of}
use Rattle.poly_book.specs.QuietReturns.{ReturnsQuietly}
use Rattle.poly_book.specs.Replay.{origins}
use Rattle.poly_book.specs.States.{State}
use Rattle.poly_book.specs.Steps.{IsUndone}
use Rattle.poly_book.proofs.Amounts.{undone_full}
use Rattle.poly_book.proofs.Returning.{undone_returns}
use Rattle.poly_book.proofs.book.Book.undo.Goals as goal

pub returns-clause-full : goal.returns-clause-full
returns-clause-full c = IfErr-weaker c.undo_change.result _ _ (λ e why q. subst (λ (s : State). UndoIsFull s) c.self.view_is
    (undone_full (state_of c.self.inside.parts) e c.self.invariant.whole why q)) c.undo_change.ensures.why

pub returns-clause-quiet : goal.returns-clause-quiet
returns-clause-quiet c =
    let s = state_of c.self.inside.parts in
    let t = state_of c.undo_change.new.parts in
    subst (λ (z : State). IfOk c.undo_change.result (λ _. ReturnsQuietly (origins z.steps).back z t)) c.self.view_is (IfOk-weaker c.undo_change.result (λ done. IsUndone s t done) (λ _. ReturnsQuietly (origins s.steps).back s t)
    (λ done made. undone_returns s t done c.self.invariant.whole made) c.undo_change.ensures.ok)
