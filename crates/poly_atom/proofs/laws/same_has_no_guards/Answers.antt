use Rattle.poly_atom.proofs.Stays.{same_has_no_guards_lem}
use Rattle.poly_atom.proofs.laws.same_has_no_guards.Goals as goal

pub returns : goal.returns
returns c = same_has_no_guards_lem
