use Rattle.std.proofs.Common.{get_or, length, vec_capacity, ℕ, ◌<◌, ◌≡◌, ◌≤◌}
use Rattle.poly_frame.specs.FrameItems.{item_at}
use Rattle.poly_frame.specs.FrameTable.{limit_at}
use Rattle.poly_frame.proofs.frame.table.limits_of.Given as goal

abbrev pub invariant-loop-b : goal.invariant-loop-b
invariant-loop-b l = record {
  room : length l.bounds ≤ vec_capacity l.limits;
  len : length l.limits.items ≡ l.b;
  done : (b : ℕ) → b < l.b → get_or l.limits.items b 0 ≡ limit_at (item_at l.bounds b) (get_or l.mosts b 0);
}
