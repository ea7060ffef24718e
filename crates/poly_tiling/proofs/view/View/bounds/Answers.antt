use Rattle.std.proofs.Common.{rules}
use Rattle.poly_tiling.proofs.view.View.bounds.Goals as goal

pub returns-in-None-clause-most : goal.returns-in-None-clause-most
returns-in-None-clause-most c = search rules
