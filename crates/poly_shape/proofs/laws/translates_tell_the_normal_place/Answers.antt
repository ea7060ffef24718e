use Rattle.poly_shape.proofs.Translates.{same_translates}
use Rattle.poly_shape.proofs.laws.translates_tell_the_normal_place.Goals as goal

pub returns : goal.returns
returns c = same_translates
