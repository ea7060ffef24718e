use Rattle.std.proofs.Common.{◌≡◌, ℕ, ◌<◌, ◌≤◌, length, get_or}
use Rattle.poly_frame.specs.Bits.{IsLessSix}
use Rattle.poly_frame.proofs.bits.without_six_rest.Given as goal

abbrev pub invariant-loop-k : goal.invariant-loop-k
invariant-loop-k l = record {
  len : length l.words ≡ length l.fn.words;
  done : (k : ℕ) → l.from ≤ k → k < l.k → IsLessSix (get_or l.words k 0) (get_or l.row k 0) (get_or l.first k 0) (get_or l.second k 0) (get_or l.third k 0) (get_or l.fourth k 0) (get_or l.fifth k 0) (get_or l.sixth k 0);
  before : (k : ℕ) → k < l.from → get_or l.words k 0 ≡ get_or l.fn.words k 0;
}
