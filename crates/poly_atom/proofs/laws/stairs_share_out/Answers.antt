use Rattle.poly_atom.proofs.Stairs.{stairs_share_out_lem}
use Rattle.poly_atom.proofs.laws.stairs_share_out.Goals as goal

pub returns : goal.returns
returns c = stairs_share_out_lem
