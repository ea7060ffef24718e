use Rattle.poly_report.proofs.OpenPaths.{open_paths_add_nothing_hopeless_lem}
use Rattle.poly_report.proofs.laws.open_paths_add_nothing_hopeless.Goals as goal

pub returns : goal.returns
returns c = open_paths_add_nothing_hopeless_lem
