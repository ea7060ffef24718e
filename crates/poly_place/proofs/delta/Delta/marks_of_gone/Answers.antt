use Rattle.std.proofs.Common.{rules}
use Rattle.poly_place.proofs.delta.Delta.marks_of_gone.Goals as goal

pub returns-clause-ok : goal.returns-clause-ok
returns-clause-ok c = search rules
