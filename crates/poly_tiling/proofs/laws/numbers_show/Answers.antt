use Rattle.poly_tiling.proofs.Shown.{numbers_show_lem}
use Rattle.poly_tiling.proofs.laws.numbers_show.Goals as goal

pub returns : goal.returns
returns c = numbers_show_lem
