use Rattle.std.proofs.Common.{rules}
use Rattle.poly_tiling.proofs.view.View.covers.Goals as goal

pub returns-in-Some : goal.returns-in-Some
returns-in-Some c = search rules
