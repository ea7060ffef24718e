use Rattle.poly_atom.proofs.Grows.{guards_may_grow_lem}
use Rattle.poly_atom.proofs.laws.guards_may_grow.Goals as goal

pub returns : goal.returns
returns c = guards_may_grow_lem
