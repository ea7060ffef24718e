use Rattle.poly_atom.proofs.Walks.{taken_back_is_undone_lem}
use Rattle.poly_atom.proofs.laws.taken_back_is_undone.Goals as goal

pub returns : goal.returns
returns c = taken_back_is_undone_lem
