use Rattle.std.proofs.Common.{[], get_or, length, map, take, ◌<◌, ◌≡◌}
use Rattle.std.specs.List.{All}
use Rattle.poly_tiling.specs.Leading.{leading, tiling_at}
use Rattle.poly_tiling.proofs.order.keys_of.Given as goal

abbrev pub invariant-loop-index : goal.invariant-loop-index
invariant-loop-index l = record {
  within : All (λ k. k.index < length l.tilings) l.keys.items;
  each : map (λ k. tiling_at l.tilings k.index) l.keys.items ≡ take l.index l.tilings;
  leading : All (λ k. k.leading ≡ leading l.base (get_or l.rows k.index []) l.count) l.keys.items;
}
