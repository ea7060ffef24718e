use Rattle.std.proofs.Common.{arith}
use Rattle.std.proofs.lemmas.Grind.{common_steps}
use Rattle.poly_tiling.proofs.Coded.{tally_push}
use Rattle.poly_tiling.proofs.view.View.count.Goals as goal

pub loop-p-preserved : goal.loop-p-preserved
loop-p-preserved c = grind (arith, common_steps, tally_push)
