use Rattle.std.proofs.Common.{take, ◌≡◌}
use Rattle.poly_tiling.specs.Blocks.{contents}
use Rattle.poly_tiling.proofs.placement_blocks.PlacementBlocks.share.Given as goal

abbrev pub invariant-loop-block : goal.invariant-loop-block
invariant-loop-block l = contents l.blocks.items ≡ contents (take l.block-index l.block-items)
