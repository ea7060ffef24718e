use Rattle.std.proofs.Common.{◌≡◌, ℕ, ◌<◌, ◌≤◌, length, not, ◌&&◌, eqb, get_or}
use Rattle.std.specs.Int.{bit_at}
use Rattle.poly_frame.proofs.bits.take_out_words.Given as goal

abbrev pub invariant-loop-k : goal.invariant-loop-k
invariant-loop-k l = record {
  len : length l.words ≡ length l.fn.words;
  done : (k t : ℕ) → k < l.k → t < 64 → eqb (bit_at (get_or l.words k 0) t) 1 ≡ (eqb (bit_at (get_or l.fn.words k 0) t) 1 && not (eqb (bit_at (get_or l.row k 0) t) 1));
  rest : (k : ℕ) → l.k ≤ k → get_or l.words k 0 ≡ get_or l.fn.words k 0;
}
