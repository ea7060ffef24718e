use Rattle.std.proofs.Common.{length, ◌-◌, ◌≤◌}
use Rattle.poly_tiling.specs.Blocks.{Begins}
use Rattle.poly_tiling.proofs.placement_blocks.PlacementBlocks.complete.Given as goal

abbrev pub invariant-loop-self : goal.invariant-loop-self
invariant-loop-self l = record {
  begins : Begins l.self l.all;
  fits : length l.self ≤ length l.all;
}

abbrev pub decreases-loop-self : goal.decreases-loop-self
decreases-loop-self l = length l.all - length l.self
