use Rattle.poly_atom.proofs.Opposites.{negation_is_opposite_lem}
use Rattle.poly_atom.proofs.laws.negation_is_opposite.Goals as goal

pub returns : goal.returns
returns c = negation_is_opposite_lem
