use Rattle.std.proofs.Common.{length, ◌&&◌, ◌≡◌}
use Rattle.std.specs.Prelude.{nat_lt}
use Rattle.poly_tiling.specs.Puzzle.{has_item}
use Rattle.poly_catalogue.specs.Counts.{AreCounts}
use Rattle.poly_catalogue.proofs.counts.count_item.Given as goal

abbrev pub invariant-loop-number : goal.invariant-loop-number
invariant-loop-number l = record {
  long : length l.counts.items ≡ length l.initial.counts.items;
  counts : AreCounts (λ p. nat_lt p l.number && has_item l.view p l.item) l.listing l.counts.items;
}
