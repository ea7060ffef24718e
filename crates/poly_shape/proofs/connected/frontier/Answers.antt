use Rattle.std.proofs.Common.{arith, subst, sym}
use Rattle.std.specs.List.{Contains}
use Rattle.poly_shape.specs.Connected.{Touches}
use Rattle.poly_shape.proofs.connected.frontier.Goals as goal

pub returns-clause-none : goal.returns-clause-none
returns-clause-none c = λ v here touches.
    let h : Contains c.as_slice-cell-items.result.now v = rw c.as_slice-cell-items.ensures.value here in
    subst (Contains c.args.reached.now) h.2 (c.loop-cell.invariant h.0 v (omega (arith, h.1, c.loop-cell-test.false)) (subst (λ w. Touches c.args.grid c.args.reached.now w) (sym h.2) touches))
