use Rattle.poly_tiling.proofs.Ranks.{ranks_compare_lem}
use Rattle.poly_tiling.proofs.laws.ranks_compare.Goals as goal

pub returns : goal.returns
returns c = ranks_compare_lem
