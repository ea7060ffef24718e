use Rattle.std.proofs.Common.{◌≡◌}
use Rattle.poly_tiling.specs.Leading.{leading}
use Rattle.poly_tiling.proofs.leading.leading.Given as goal

abbrev pub invariant-loop-index : goal.invariant-loop-index
invariant-loop-index l = l.number ≡ leading l.base l.row l.index
