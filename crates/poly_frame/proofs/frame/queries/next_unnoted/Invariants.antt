use Rattle.std.proofs.Common.{false, get_or, nat_lt, ℕ, ◌<◌, ◌≡◌}
use Rattle.poly_frame.proofs.frame.queries.next_unnoted.Given as goal

abbrev pub invariant-loop-b : goal.invariant-loop-b
invariant-loop-b l = (b : ℕ) → b < l.b → nat_lt (get_or l.steps.have.items b 0) (get_or l.node.table.now.leasts.items b 0) ≡ false
