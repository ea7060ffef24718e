use Rattle.std.proofs.Common.{◌≡◌, ℕ, ◌<◌, ◌≤◌, length, get_or}
use Rattle.poly_frame.specs.Bits.{IsLess}
use Rattle.poly_frame.proofs.bits.take_out_rest.Given as goal

abbrev pub invariant-loop-k : goal.invariant-loop-k
invariant-loop-k l = record {
  len : length l.words ≡ length l.fn.words;
  done : (k : ℕ) → l.from ≤ k → k < l.k → IsLess (get_or l.words k 0) (get_or l.fn.words k 0) (get_or l.first k 0) (get_or l.second k 0) (get_or l.third k 0);
  before : (k : ℕ) → k < l.from → get_or l.words k 0 ≡ get_or l.fn.words k 0;
  rest : (k : ℕ) → l.k ≤ k → get_or l.words k 0 ≡ get_or l.fn.words k 0;
}
