use Rattle.std.proofs.Common.{length, ◌*◌, ◌+◌, ◌≡◌, ◌≤◌}
use Rattle.poly_tiling.specs.Lister.{AreApart}
use Rattle.poly_tiling.proofs.Families.{Sums}
use Rattle.poly_tiling.proofs.lister.+extend.Given as goal

abbrev pub decreases-extend : goal.decreases-extend
decreases-extend l = 2 * length l.free.items

abbrev pub decreases-take : goal.decreases-take
decreases-take l = 2 * length l.free.now + 1

abbrev pub invariant-extend-loop-p : goal.invariant-extend-loop-p
invariant-extend-loop-p l = record {
  same : l.chosen.items ≡ l.fn.chosen.items;
  sums : Sums l.view l.fn.chosen.items l.fn.free.items l.free.items l.fn.found.items l.found.items;
  apart : AreApart l.fn.chosen.items l.free.items;
  fewer : length l.free.items ≤ length l.fn.free.items;
  few : length l.found.items ≤ 1000000;
}

abbrev pub decreases-extend-loop-p : goal.decreases-extend-loop-p
decreases-extend-loop-p l = length l.free.items
