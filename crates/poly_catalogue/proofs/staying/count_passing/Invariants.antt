use Rattle.std.proofs.Common.{take, ◌≡◌, ◌≤◌}
use Rattle.poly_tiling.specs.Lists.{tally}
use Rattle.poly_catalogue.specs.Stays.{passes}
use Rattle.poly_catalogue.proofs.staying.count_passing.Given as goal

abbrev pub invariant-loop-tiling : goal.invariant-loop-tiling
invariant-loop-tiling l = record { value : l.count ≡ tally (passes l.flags l.view l.delta) (take l.tiling-index l.tilings); most : l.count ≤ l.tiling-index }
