use Rattle.poly_atom.proofs.Hopes.{taking_keeps_hope_lem}
use Rattle.poly_atom.proofs.laws.taking_keeps_hope.Goals as goal

pub returns : goal.returns
returns c = taking_keeps_hope_lem
