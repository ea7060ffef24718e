use Rattle.std.proofs.Common.{arith, sym, ◌∙◌, ◌-◌}
use Rattle.poly_tiling.proofs.Ascending.{ascends_last, ascends_more}
use Rattle.poly_tiling.proofs.numbers.ascends.Goals as goal

pub loop-i-preserved : goal.loop-i-preserved
loop-i-preserved c =
    c.loop-i.invariant ∙ ascends_more c.args.numbers.now c.loop-i.i (omega (arith, c.loop-i.auto.i)) c.loop-i-test.true (omega (arith, c.if-numbers-i.false))

pub returns : goal.returns
returns c = sym (c.loop-i.invariant ∙ ascends_last c.args.numbers.now (c.loop-i.i - 1) (omega (arith, c.loop-i.auto.i, c.loop-i-test.false)))
