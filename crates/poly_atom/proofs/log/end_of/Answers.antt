use Rattle.std.proofs.Common.{arith, ◌+◌}
use Rattle.poly_atom.proofs.Offsets.{start_past}
use Rattle.poly_atom.proofs.log.end_of.Goals as goal

pub returns-else-edition-starts-clause-value : goal.returns-else-edition-starts-clause-value
returns-else-edition-starts-clause-value c = start_past c.args.starts.now c.args.guards.now (c.args.edition + 1) c.requires (omega arith)
