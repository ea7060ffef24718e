use Rattle.std.proofs.Common.{None, false, refl, subst}
use Rattle.std.specs.Prelude.{◌≡◌, ◌⊎◌}
use Rattle.std.proofs.lemmas.Result.{err_from_is_err_and}
use Rattle.poly_grid.specs.declared.refusal.Refusal.TheVariants.{Memory}
use Rattle.poly_cli.specs.Books.{session_of}
use Rattle.poly_cli.specs.States.{IsRefusedFor, UndoRefused, Undoes}
use Rattle.poly_cli.proofs.Booked.{undo_refused, undone_is}
use Rattle.poly_cli.proofs.solo.SoloEngine.undo.Goals as goal

pub returns-in_err-done-clause-why : goal.returns-in_err-done-clause-why
returns-in_err-done-clause-why c =
    let p = err_from_is_err_and c.from_residual.result c.from_residual.ensures.1 in
    let b = c.self.inside in
    rw (p.1, p.2) (subst (λ s. IsRefusedFor (λ cause. UndoRefused s cause ⊎ (cause ≡ Memory)) s.failed c.in_err-done.field-0.0) c.self.view_is (undo_refused b.book b.settled c.in_err-done.field-0.0 c.in_err-done.ensures.why c.in_err-done.ensures.full))

pub returns-clause-ok : goal.returns-clause-ok
returns-clause-ok c =
    let b = c.self.inside in
    subst (λ s. (s.failed ≡ None) × Undoes s (session_of c.undo.new.self false)) c.self.view_is (refl, undone_is b.book c.undo.new.self b.settled c.in_ok-done.done c.in_ok-done.ensures.ok)
