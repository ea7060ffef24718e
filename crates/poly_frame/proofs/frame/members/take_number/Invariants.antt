use Rattle.std.proofs.Common.{eqb, false, get_or, ℕ, ◌<◌, ◌≡◌}
use Rattle.poly_frame.proofs.frame.members.take_number.Given as goal

abbrev pub invariant-loop-k : goal.invariant-loop-k
invariant-loop-k l = record {
  same : l.numbers ≡ l.fn.numbers;
  before : (j : ℕ) → j < l.k → eqb l.number (get_or l.fn.numbers.items j 0) ≡ false;
}
