use Rattle.poly_atom.proofs.Grows.{families_may_grow_lem}
use Rattle.poly_atom.proofs.laws.families_may_grow.Goals as goal

pub returns : goal.returns
returns c = families_may_grow_lem
