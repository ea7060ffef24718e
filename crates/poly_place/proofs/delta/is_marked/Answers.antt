use Rattle.std.proofs.Common.{rules}
use Rattle.poly_place.proofs.delta.is_marked.Goals as goal

pub returns-in-Some : goal.returns-in-Some
returns-in-Some c = search rules
