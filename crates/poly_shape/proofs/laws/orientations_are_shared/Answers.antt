use Rattle.poly_shape.proofs.Orbits.{shared_orientations}
use Rattle.poly_shape.proofs.laws.orientations_are_shared.Goals as goal

pub returns : goal.returns
returns c = shared_orientations
