use Rattle.std.proofs.Common.{get_or, length, take, ℕ, ◌+◌, ◌<◌, ◌≡◌}
use Rattle.poly_frame.specs.FrameItems.{times}
use Rattle.poly_frame.proofs.frame.notes.raise_and_note.Given as goal

abbrev pub invariant-loop-b : goal.invariant-loop-b
invariant-loop-b l = record {
  len : length l.have.items ≡ length l.fn.have.items;
  more : (b : ℕ) → b < length l.fn.have.items → get_or l.have.items b 0 ≡ get_or l.fn.have.items b 0 + times (take l.b-index l.indices) b;
}
