use Rattle.poly_atom.proofs.Stays.{answers_may_grow_lem}
use Rattle.poly_atom.proofs.laws.answers_may_grow.Goals as goal

pub returns : goal.returns
returns c = answers_may_grow_lem
