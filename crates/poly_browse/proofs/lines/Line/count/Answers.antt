use Rattle.std.proofs.Common.{arith}
use Rattle.std.proofs.lemmas.Grind.{common_steps}
use Rattle.poly_tiling.proofs.Coded.{tally_push}
use Rattle.poly_browse.proofs.lines.Line.count.Goals as goal

pub loop-number-preserved : goal.loop-number-preserved
loop-number-preserved c = grind (arith, common_steps, tally_push)
