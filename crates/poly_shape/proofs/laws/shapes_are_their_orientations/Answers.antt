use Rattle.poly_shape.proofs.Orientations.{own_orientation}
use Rattle.poly_shape.proofs.laws.shapes_are_their_orientations.Goals as goal

pub returns : goal.returns
returns c = own_orientation
