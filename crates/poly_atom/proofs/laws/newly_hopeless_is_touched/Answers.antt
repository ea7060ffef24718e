use Rattle.poly_atom.proofs.Newly.{newly_hopeless_is_touched_lem}
use Rattle.poly_atom.proofs.laws.newly_hopeless_is_touched.Goals as goal

pub returns : goal.returns
returns c = newly_hopeless_is_touched_lem
