use Rattle.poly_shape.proofs.Orientations.{rotations_among_all}
use Rattle.poly_shape.proofs.laws.rotations_are_among_all.Goals as goal

pub returns : goal.returns
returns c = rotations_among_all
