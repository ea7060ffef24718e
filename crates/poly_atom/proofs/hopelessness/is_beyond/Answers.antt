use Rattle.std.proofs.Common.{rules}
use Rattle.poly_atom.proofs.hopelessness.is_beyond.Goals as goal

pub returns-in-AtLeast : goal.returns-in-AtLeast
returns-in-AtLeast c = search rules
