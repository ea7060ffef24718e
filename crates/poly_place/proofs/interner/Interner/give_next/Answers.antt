use Rattle.std.proofs.Common.{rules}
use Rattle.poly_place.proofs.interner.Interner.give_next.Goals as goal

pub returns-then-len-clause-spent : goal.returns-then-len-clause-spent
returns-then-len-clause-spent c = search rules
