use Rattle.std.proofs.Common.{take, ◌≡◌}
use Rattle.std.specs.List.{filter_map}
use Rattle.poly_tiling.specs.TilingOrder.{position_at}
use Rattle.poly_tiling.proofs.order.positions_of.Given as goal

abbrev pub invariant-loop-number : goal.invariant-loop-number
invariant-loop-number l = l.list.items ≡ filter_map (position_at l.positions) (take l.number-index l.numbers)
