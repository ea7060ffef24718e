use Rattle.std.proofs.Common.{false, subst, sym, ◌∙◌, ◌≡◌}
use Rattle.poly_tasks.specs.Touching.{touches}
use Rattle.poly_tasks.proofs.Lacking.{none_next}
use Rattle.poly_tasks.proofs.untouched.first_untouched.Goals as goal

pub loop-count-preserved : goal.loop-count-preserved
loop-count-preserved c =
    none_next (λ a. touches c.args.touch.now a) c.guards_of-guards.result.now c.loop-count.count c.index-guards-count.result c.loop-count-test.true c.loop-count.invariant
    (subst (λ a. touches c.args.touch.now a ≡ false) c.index-guards-count.is (sym c.touches.ensures ∙ c.if-touches.false))
