use Rattle.poly_atom.proofs.EmptyFamilies.{hopeless_is_empty_lem}
use Rattle.poly_atom.proofs.laws.hopeless_is_empty.Goals as goal

pub returns : goal.returns
returns c = hopeless_is_empty_lem
