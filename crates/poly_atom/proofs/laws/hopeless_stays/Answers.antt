use Rattle.poly_atom.proofs.Stays.{hopeless_stays_lem}
use Rattle.poly_atom.proofs.laws.hopeless_stays.Goals as goal

pub returns : goal.returns
returns c = hopeless_stays_lem
