use Rattle.std.proofs.Common.{rules}
use Rattle.poly_frame.proofs.plain.make_base.Goals as goal

pub returns-clause-items : goal.returns-clause-items
returns-clause-items c = search rules
