use Rattle.std.proofs.Common.{map, take, ◌≡◌}
use Rattle.poly_tiling.specs.TilingOrder.{ranks_from}
use Rattle.poly_tiling.proofs.order.ranks_of_each.Given as goal

abbrev pub invariant-loop-tiling : goal.invariant-loop-tiling
invariant-loop-tiling l = l.rows ≡ map (ranks_from 0 l.view.live) (take l.tiling-index l.tilings)
