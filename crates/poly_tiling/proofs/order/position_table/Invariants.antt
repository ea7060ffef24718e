use Rattle.std.proofs.Common.{length, take, ◌≡◌}
use Rattle.poly_tiling.specs.TilingOrder.{ArePositions}
use Rattle.poly_tiling.proofs.order.position_table.Given as goal

abbrev pub invariant-loop-position : goal.invariant-loop-position
invariant-loop-position l = record {
  whole : length l.positions.items ≡ l.count;
  marked : ArePositions (take l.position l.list) l.positions.items;
}
