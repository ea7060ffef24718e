use Rattle.std.proofs.Common.{eqb, false, get_or, true, ℕ, ◌+◌, ◌<◌, ◌≡◌}
use Rattle.std.specs.Int.{bit_at}
use Rattle.poly_frame.proofs.frame.starved.has_none.Given as goal

abbrev pub invariant-loop-k : goal.invariant-loop-k
invariant-loop-k l = l.all ≡ 0 → (k t : ℕ) → k < l.k → t < 64 → eqb (bit_at (get_or l.left k 0) t) 1 ≡ true → eqb (bit_at (get_or l.rows (l.from + k) 0) t) 1 ≡ false
