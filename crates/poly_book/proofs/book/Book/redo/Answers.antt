use Rattle.std.proofs.Common.{subst}
use Rattle.std.specs.Prelude.{IfOk}
use Rattle.std.proofs.lemmas.Result.{IfErr-weaker, IfOk-weaker}
use Rattle.poly_book.specs.Amounts.{RedoIsFull}
use Rattle.poly_book.specs.Keeps.{state_of}
use Rattle.poly_book.specs.QuietReturns.{ReturnsQuietly}
use Rattle.poly_book.specs.Replay.{origins}
use Rattle.poly_book.specs.States.{State}
use Rattle.poly_book.specs.Steps.{IsRedone}
use Rattle.poly_book.proofs.Amounts.{redone_full}
use Rattle.poly_book.proofs.Returning.{redone_returns}
use Rattle.poly_book.proofs.book.Book.redo.Goals as goal

pub returns-clause-full : goal.returns-clause-full
returns-clause-full c = IfErr-weaker c.redo_change.result _ _ (λ e why q. subst (λ (s : State). RedoIsFull s) c.self.view_is
    (redone_full (state_of c.self.inside.parts) e c.self.invariant.whole why q)) c.redo_change.ensures.why

pub returns-clause-quiet : goal.returns-clause-quiet
returns-clause-quiet c =
    let s = state_of c.self.inside.parts in
    let t = state_of c.redo_change.new.parts in
    subst (λ (z : State). IfOk c.redo_change.result (λ _. ReturnsQuietly (origins z.steps).forth z t)) c.self.view_is (IfOk-weaker c.redo_change.result (λ done. IsRedone s t done) (λ _. ReturnsQuietly (origins s.steps).forth s t)
    (λ done made. redone_returns s t done c.self.invariant.whole made) c.redo_change.ensures.ok)
