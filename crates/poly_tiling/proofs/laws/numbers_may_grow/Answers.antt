use Rattle.poly_tiling.proofs.Grown.{numbers_may_grow_lem}
use Rattle.poly_tiling.proofs.laws.numbers_may_grow.Goals as goal

pub returns : goal.returns
returns c = numbers_may_grow_lem
