use Rattle.std.proofs.Common.{arith, refl}
use Rattle.poly_atom.proofs.Asked.{gathered_new}
use Rattle.poly_atom.proofs.hopelessness.gather_one.Goals as goal

pub returns-clause-same : goal.returns-clause-same
returns-clause-same c = gathered_new c.args.list.now _ c.args.count c.args.atom (omega (arith, c.requires, c.if-count-list.false)) refl
