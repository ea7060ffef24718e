use Rattle.std.proofs.Common.{map, take, ◌≡◌}
use Rattle.poly_tiling.specs.Leading.{tiling_at}
use Rattle.poly_tiling.proofs.order.copies_at.Given as goal

abbrev pub invariant-loop-key : goal.invariant-loop-key
invariant-loop-key l = l.list.items ≡ map (λ k. tiling_at l.tilings k.index) (take l.key-index l.keys)
