use Rattle.std.proofs.Common.{subst, sym, true, ◌≡◌}
use Rattle.poly_tiling.specs.Lists.{distinct}
use Rattle.poly_tiling.proofs.Orders.{live_once}
use Rattle.poly_tiling.proofs.order.live_positions.Goals as goal

pub position_table-requires-clause-once : goal.position_table-requires-clause-once
position_table-requires-clause-once c = subst (λ l. distinct l ≡ true) (sym c.live.ensures.value) (live_once c.args.view.now c.live.ensures.well)
