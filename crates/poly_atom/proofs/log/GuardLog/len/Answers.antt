use Rattle.std.proofs.Common.{ap, arith, length}
use Rattle.poly_atom.proofs.Offsets.{length-rows}
use Rattle.poly_atom.proofs.log.GuardLog.len.Goals as goal

pub returns : goal.returns
returns c = omega (arith, c.len.ensures, length-rows c.self.inside.starts.items c.self.inside.guards.items, ap length c.self.view_is, c.self.inside.starts.ok.0)
