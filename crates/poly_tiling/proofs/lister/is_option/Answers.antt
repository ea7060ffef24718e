use Rattle.std.proofs.Common.{rules}
use Rattle.poly_tiling.proofs.lister.is_option.Goals as goal

pub returns-in-None : goal.returns-in-None
returns-in-None c = search rules
