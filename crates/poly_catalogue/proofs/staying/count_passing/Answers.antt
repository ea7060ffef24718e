use Rattle.std.proofs.Common.{arith}
use Rattle.std.proofs.lemmas.Grind.{common_steps}
use Rattle.poly_tiling.proofs.Coded.{tally_push}
use Rattle.poly_catalogue.proofs.staying.count_passing.Goals as goal

pub loop-tiling-preserved : goal.loop-tiling-preserved
loop-tiling-preserved c = grind (arith, common_steps, tally_push)
