use Rattle.std.proofs.Common.{◌≡◌}
use Rattle.poly_atom.proofs.Forgets.{lowered}
use Rattle.poly_atom.proofs.log.lower_all.Given as goal

abbrev pub invariant-loop-start : goal.invariant-loop-start
invariant-loop-start l = l.starts ≡ lowered l.count l.initial.starts l.start-index
