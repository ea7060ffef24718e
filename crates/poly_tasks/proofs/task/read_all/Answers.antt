use Rattle.std.proofs.Common.{rules}
use Rattle.poly_tasks.proofs.task.read_all.Goals as goal

pub returns-clause-ok : goal.returns-clause-ok
returns-clause-ok c = search rules
