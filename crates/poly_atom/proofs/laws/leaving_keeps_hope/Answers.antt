use Rattle.poly_atom.proofs.Hopes.{leaving_keeps_hope_lem}
use Rattle.poly_atom.proofs.laws.leaving_keeps_hope.Goals as goal

pub returns : goal.returns
returns c = leaving_keeps_hope_lem
