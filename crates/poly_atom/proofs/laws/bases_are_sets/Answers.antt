use Rattle.poly_atom.proofs.Bases.{base_is_set}
use Rattle.poly_atom.proofs.laws.bases_are_sets.Goals as goal

pub returns : goal.returns
returns c = base_is_set
