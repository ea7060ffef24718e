use Rattle.std.proofs.Common.{Bool, get_or, length, take, vec_capacity, vec_len, ℕ, ◌-◌, ◌<◌, ◌≡◌, ◌≤◌}
use Rattle.std.specs.List.{filter}
use Rattle.poly_frame.specs.Bits.{in_both}
use Rattle.poly_frame.proofs.frame.queries.list_both.Given as goal

abbrev pub invariant-loop-j : goal.invariant-loop-j
invariant-loop-j l = record {
  low : l.low ≤ length l.matrix.numbers.items;
  len : vec_len l.into ≤ l.low;
  capacity : vec_capacity l.into ≡ vec_capacity l.fn.into;
  items : (f : ℕ → Bool) → ((j : ℕ) → j < length l.matrix.numbers.items → f (get_or l.matrix.numbers.items j 0) ≡ in_both l.live l.at l.matrix.rows.items l.from j) → l.into.items ≡ filter f (take l.low l.matrix.numbers.items);
}

abbrev pub decreases-loop-j : goal.decreases-loop-j
decreases-loop-j l = length l.matrix.numbers.items - l.low
