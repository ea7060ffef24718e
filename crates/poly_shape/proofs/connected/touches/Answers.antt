use Rattle.std.proofs.Common.{sym, subst, arith}
use mathlib.Core.Bool.{true≢false}
use Rattle.poly_shape.specs.Connected.{AreNeighbours}
use Rattle.poly_shape.proofs.Ascending.{none_more}
use Rattle.poly_shape.proofs.connected.touches.Goals as goal

pub loop-other-preserved : goal.loop-other-preserved
loop-other-preserved c = none_more (λ v. AreNeighbours c.args.grid v c.args.cell) c.args.cells.now c.loop-other.other-index c.other-item.result c.loop-other-test.true c.other-item.is
    (λ step. true≢false (sym (c.if-are_neighbours.ensures.1 step))) c.loop-other.invariant

pub returns : goal.returns
returns c = (λ h. absurd (true≢false (sym h)), λ t. let f = c.loop-other.invariant t.1.0 t.0 (omega (arith, t.1.1, c.loop-other-test.false)) (subst (λ v. AreNeighbours c.args.grid v c.args.cell) (sym t.1.2) t.2) in absurd f)
