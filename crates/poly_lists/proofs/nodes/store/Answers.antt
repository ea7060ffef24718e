use Rattle.std.proofs.Common.{rules}
use Rattle.poly_lists.proofs.nodes.store.Goals as goal

pub returns-in-Lacks-clause-ok : goal.returns-in-Lacks-clause-ok
returns-in-Lacks-clause-ok c = search rules
