use Rattle.poly_atom.proofs.Widths.{width_is_one_lem}
use Rattle.poly_atom.proofs.laws.width_is_one.Goals as goal

pub returns : goal.returns
returns c = width_is_one_lem
