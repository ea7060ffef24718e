use Rattle.std.proofs.Common.{None, false, refl, subst}
use Rattle.std.specs.Prelude.{◌≡◌, ◌⊎◌}
use Rattle.poly_grid.specs.declared.refusal.Refusal.TheVariants.{Memory}
use Rattle.poly_cli.specs.Books.{session_of}
use Rattle.poly_cli.specs.States.{IsRefusedFor, RedoRefused, Redoes}
use Rattle.poly_cli.proofs.Booked.{redo_refused, redone_is}
use Rattle.poly_cli.proofs.solo.SoloEngine.redo.Goals as goal

pub returns-in-Err-clause-why : goal.returns-in-Err-clause-why
returns-in-Err-clause-why c =
    let b = c.self.inside in
    subst (λ s. IsRefusedFor (λ cause. RedoRefused s cause ⊎ (cause ≡ Memory)) s.failed c.in-Err.refusal) c.self.view_is (redo_refused b.book b.settled c.in-Err.refusal c.in-Err.ensures.why c.in-Err.ensures.full)

pub returns-clause-ok : goal.returns-clause-ok
returns-clause-ok c =
    let b = c.self.inside in
    subst (λ s. (s.failed ≡ None) × Redoes s (session_of c.redo.new.self false)) c.self.view_is (refl, redone_is b.book c.redo.new.self b.settled c.in-Ok.done c.whole.ensures.whole.replay c.in-Ok.ensures.ok)
