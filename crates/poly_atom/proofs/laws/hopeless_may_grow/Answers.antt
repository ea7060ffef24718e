use Rattle.poly_atom.proofs.Grows.{hopeless_may_grow_lem}
use Rattle.poly_atom.proofs.laws.hopeless_may_grow.Goals as goal

pub returns : goal.returns
returns c = hopeless_may_grow_lem
