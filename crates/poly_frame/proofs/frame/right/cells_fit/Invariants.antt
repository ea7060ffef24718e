use Rattle.std.proofs.Common.{take, true, ◌≡◌}
use Rattle.std.specs.List.{list_all}
use Rattle.poly_tiling.specs.declared.item.Item.TheVariants.{Cell}
use Rattle.poly_frame.specs.FrameConsistent.{item_fits}
use Rattle.poly_frame.proofs.frame.right.cells_fit.Given as goal

abbrev pub invariant-loop-cell : goal.invariant-loop-cell
invariant-loop-cell l = list_all (λ c. item_fits l.node.view.now l.node.trail.now (Cell c)) (take l.cell-index l.cells) ≡ true
