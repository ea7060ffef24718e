use Rattle.std.proofs.Common.{rules}
use Rattle.poly_place.proofs.plan_change.view_of.Goals as goal

pub returns-clause-ok : goal.returns-clause-ok
returns-clause-ok c = search rules

pub sharing-requires : goal.sharing-requires
sharing-requires c = search rules
