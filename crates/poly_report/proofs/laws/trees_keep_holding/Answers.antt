use Rattle.poly_report.proofs.Later.{trees_keep_holding_lem}
use Rattle.poly_report.proofs.laws.trees_keep_holding.Goals as goal

pub returns : goal.returns
returns c = trees_keep_holding_lem
