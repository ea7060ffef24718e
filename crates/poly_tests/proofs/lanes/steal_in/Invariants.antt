use Rattle.std.proofs.Common.{◌≡◌}
use Rattle.poly_tests.proofs.lanes.steal_in.Given as goal

abbrev pub invariant-loop : goal.invariant-loop
invariant-loop l = l.thief.deque ≡ l.fn.thief.deque
