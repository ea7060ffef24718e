use Rattle.std.proofs.Common.{rules}
use Rattle.poly_frame.proofs.FrameOpen.{size_step}
use Rattle.poly_frame.proofs.frame.matrix.size_for.Goals as goal

pub loop-p-preserved : goal.loop-p-preserved
loop-p-preserved c = record {
  above = size_step c.args.numbers.now c.loop-p.p-index c.loop-p.size c.max-size.result c.loop-p-test.true c.max-size.ensures c.loop-p.invariant.above;
  small = search rules;
}
