use Rattle.std.proofs.Common.{Bool, get_or, length, take, ℕ, ◌-◌, ◌<◌, ◌≡◌, ◌≤◌}
use Rattle.poly_tiling.specs.Lists.{tally}
use Rattle.poly_frame.specs.Bits.{in_both}
use Rattle.poly_frame.proofs.frame.allowed.count_both.Given as goal

abbrev pub invariant-loop-j : goal.invariant-loop-j
invariant-loop-j l = record {
  low : l.low ≤ length l.matrix.numbers.items;
  few : l.n ≤ l.low;
  all : (g : ℕ → Bool) → ((j : ℕ) → j < length l.matrix.numbers.items → g (get_or l.matrix.numbers.items j 0) ≡ in_both l.live l.at l.matrix.rows.items l.from j) → l.n ≡ tally g (take l.low l.matrix.numbers.items);
}

abbrev pub decreases-loop-j : goal.decreases-loop-j
decreases-loop-j l = length l.matrix.numbers.items - l.low
