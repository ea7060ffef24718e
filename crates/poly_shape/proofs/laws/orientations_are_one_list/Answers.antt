use Rattle.poly_shape.proofs.Orientations.{one_list}
use Rattle.poly_shape.proofs.laws.orientations_are_one_list.Goals as goal

pub returns : goal.returns
returns c = one_list
