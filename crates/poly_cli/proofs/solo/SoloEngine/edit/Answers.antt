use Rattle.std.proofs.Common.{None, false, refl, subst}
use Rattle.std.specs.Prelude.{◌≡◌, ◌⊎◌}
use Rattle.std.proofs.lemmas.Result.{err_from_is_err_and}
use Rattle.poly_grid.specs.declared.refusal.Refusal.TheVariants.{Memory}
use Rattle.poly_cli.specs.Books.{session_of}
use Rattle.poly_cli.specs.States.{EditRefused, Edits, IsRefusedFor}
use Rattle.poly_cli.proofs.Booked.{edit_refused, edited}
use Rattle.poly_cli.proofs.solo.SoloEngine.edit.Goals as goal

pub returns-in_err-done-clause-why : goal.returns-in_err-done-clause-why
returns-in_err-done-clause-why c =
    let p = err_from_is_err_and c.from_residual.result c.from_residual.ensures.1 in
    let b = c.self.inside in
    rw (p.1, p.2) (subst (λ s. IsRefusedFor (λ cause. EditRefused s c.args.edit cause ⊎ (cause ≡ Memory)) s.failed c.in_err-done.field-0.0) c.self.view_is (edit_refused b.book b.settled c.in_err-done.field-0.0 c.args.edit c.in_err-done.ensures.why))

pub returns-clause-ok : goal.returns-clause-ok
returns-clause-ok c =
    let b = c.self.inside in
    subst (λ s. (s.failed ≡ None) × Edits s c.args.edit (session_of c.edit.new.self false)) c.self.view_is (refl, edited b.book c.edit.new.self b.settled c.args.edit c.in_ok-done.done c.in_ok-done.ensures.ok c.in_ok-done.ensures.narrow)
