use Rattle.std.proofs.Common.{drop, ◌-◌, ◌≡◌}
use Rattle.poly_tiling.specs.Lists.{ascending}
use Rattle.poly_tiling.proofs.numbers.ascends.Given as goal

abbrev pub invariant-loop-i : goal.invariant-loop-i
invariant-loop-i l = ascending l.numbers ≡ ascending (drop (l.i - 1) l.numbers)
