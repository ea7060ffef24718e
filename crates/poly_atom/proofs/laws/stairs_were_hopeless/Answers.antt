use Rattle.poly_atom.proofs.Stays.{stairs_were_hopeless_lem}
use Rattle.poly_atom.proofs.laws.stairs_were_hopeless.Goals as goal

pub returns : goal.returns
returns c = stairs_were_hopeless_lem
