use Rattle.std.proofs.Common.{◌≡◌, ℕ, ◌<◌, ◌≤◌, ◌*◌, length, get_or}
use Rattle.poly_frame.specs.Bits.{IsLess}
use Rattle.poly_frame.proofs.bits.take_out_fours.Given as goal

abbrev pub invariant-loop-c : goal.invariant-loop-c
invariant-loop-c l = record {
  len : length l.words ≡ length l.fn.words;
  done : (k : ℕ) → k < 4 * l.c → IsLess (get_or l.words k 0) (get_or l.fn.words k 0) (get_or l.first k 0) (get_or l.second k 0) (get_or l.third k 0);
  rest : (k : ℕ) → 4 * l.c ≤ k → get_or l.words k 0 ≡ get_or l.fn.words k 0;
}
