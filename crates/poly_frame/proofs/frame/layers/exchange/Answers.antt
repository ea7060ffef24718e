use Rattle.std.proofs.Common.{rules}
use Rattle.poly_frame.proofs.frame.layers.exchange.Goals as goal

pub returns-clause-stand : goal.returns-clause-stand
returns-clause-stand c = search rules
