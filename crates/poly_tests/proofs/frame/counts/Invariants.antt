use Rattle.std.proofs.Common.{◌≡◌}
use Rattle.poly_tests.proofs.frame.counts.Given as goal

abbrev pub invariant-loop-bound : goal.invariant-loop-bound
invariant-loop-bound l = l.frame ≡ l.fn.frame
