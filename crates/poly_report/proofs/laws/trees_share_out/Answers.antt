use Rattle.poly_report.proofs.Trees.{trees_share_out_lem}
use Rattle.poly_report.proofs.laws.trees_share_out.Goals as goal

pub returns : goal.returns
returns c = trees_share_out_lem
