use Rattle.poly_tiling.proofs.Reached.{numbers_reach_lem}
use Rattle.poly_tiling.proofs.laws.numbers_reach.Goals as goal

pub returns : goal.returns
returns c = numbers_reach_lem
