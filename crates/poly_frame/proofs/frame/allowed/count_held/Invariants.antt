use Rattle.std.proofs.Common.{drop, not, ◌&&◌, ◌+◌, ◌≡◌, ◌≤◌}
use Rattle.poly_tiling.specs.Lists.{tally}
use Rattle.poly_tiling.specs.Puzzle.{has_item}
use Rattle.poly_frame.specs.FrameConsistent.{items_fit}
use Rattle.poly_frame.specs.Open.{dead}
use Rattle.poly_frame.proofs.frame.allowed.count_held.Given as goal

abbrev pub invariant-loop-p : goal.invariant-loop-p
invariant-loop-p l = record {
  same : l.n + tally (λ p. has_item l.node.view.now p l.item && (items_fit l.node.view.now l.node.trail.now p && not (dead l.node.view.now l.node.trail.now p))) (drop l.p-index l.members) ≡ tally (λ p. has_item l.node.view.now p l.item && (items_fit l.node.view.now l.node.trail.now p && not (dead l.node.view.now l.node.trail.now p))) l.members;
  few : l.n ≤ l.p-index;
}
