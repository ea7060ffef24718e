use Rattle.std.proofs.Common.{take, ◌≡◌}
use Rattle.std.specs.List.{filter_map}
use Rattle.poly_place.specs.Falls.{falls}
use Rattle.poly_place.proofs.delta.fallen.Given as goal

abbrev pub invariant-loop-bound : goal.invariant-loop-bound
invariant-loop-bound l = l.list.items ≡ filter_map (falls l.to) (take l.bound-index l.from)
