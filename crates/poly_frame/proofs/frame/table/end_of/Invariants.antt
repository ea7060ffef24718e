use Rattle.std.proofs.Common.{get_or, length, ℕ, ◌<◌, ◌≡◌, ◌≤◌}
use Rattle.poly_frame.proofs.frame.table.end_of.Given as goal

abbrev pub invariant-loop-end : goal.invariant-loop-end
invariant-loop-end l = record {
  low : l.end ≤ length l.leasts;
  quiet : (b : ℕ) → l.end ≤ b → b < length l.leasts → get_or l.leasts b 0 ≡ 0;
}

abbrev pub decreases-loop-end : goal.decreases-loop-end
decreases-loop-end l = l.end
