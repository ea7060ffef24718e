use Rattle.poly_report.proofs.Belong.{tree_tilings_belong_lem}
use Rattle.poly_report.proofs.laws.tree_tilings_belong.Goals as goal

pub returns : goal.returns
returns c = tree_tilings_belong_lem
