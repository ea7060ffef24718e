use Rattle.std.proofs.Common.{rules}
use Rattle.poly_place.proofs.interner.Interner.give.Goals as goal

pub returns-in-Some-clause-ok : goal.returns-in-Some-clause-ok
returns-in-Some-clause-ok c = search rules
