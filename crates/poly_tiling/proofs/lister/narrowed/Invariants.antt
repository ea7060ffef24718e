use Rattle.std.proofs.Common.{take, ◌≡◌}
use Rattle.std.specs.List.{filter}
use Rattle.poly_tiling.specs.Lister.{fits_beside}
use Rattle.poly_tiling.proofs.lister.narrowed.Given as goal

abbrev pub invariant-loop-q : goal.invariant-loop-q
invariant-loop-q l = l.list.items ≡ filter (λ q. fits_beside l.view l.chosen q) (take l.q-index l.free)
