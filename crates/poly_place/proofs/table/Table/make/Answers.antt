use Rattle.std.proofs.Common.{rules}
use Rattle.poly_place.proofs.table.Table.make.Goals as goal

pub returns-clause-now : goal.returns-clause-now
returns-clause-now c = search rules

pub invariant_of-self : goal.invariant_of-self
invariant_of-self c = search rules

pub returns-clause-right : goal.returns-clause-right
returns-clause-right c = search rules
