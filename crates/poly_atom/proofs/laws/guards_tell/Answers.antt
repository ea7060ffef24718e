use Rattle.poly_atom.proofs.GuardKinds.{guards_tell_lem}
use Rattle.poly_atom.proofs.laws.guards_tell.Goals as goal

pub returns : goal.returns
returns c = guards_tell_lem
