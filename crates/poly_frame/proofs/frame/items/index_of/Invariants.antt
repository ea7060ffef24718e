use Rattle.std.proofs.Common.{false, length, ℕ, ◌<◌, ◌≡◌, ◌≤◌}
use Rattle.poly_tiling.specs.Puzzle.{same_item}
use Rattle.poly_frame.specs.FrameItems.{item_at}
use Rattle.poly_frame.proofs.frame.items.index_of.Given as goal

abbrev pub invariant-loop-b : goal.invariant-loop-b
invariant-loop-b l = record {
  low : l.b ≤ length l.bounds;
  none : (b : ℕ) → l.b ≤ b → b < length l.bounds → same_item (item_at l.bounds b) l.item ≡ false;
}

abbrev pub decreases-loop-b : goal.decreases-loop-b
decreases-loop-b l = l.b
