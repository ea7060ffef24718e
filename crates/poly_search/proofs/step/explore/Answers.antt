use Rattle.std.proofs.Common.{rules}
use Rattle.poly_search.proofs.step.explore.Goals as goal

pub returns-clause-holds : goal.returns-clause-holds
returns-clause-holds c = search rules

pub returns-clause-root : goal.returns-clause-root
returns-clause-root c = search rules

pub returns-clause-rests : goal.returns-clause-rests
returns-clause-rests c = search rules
