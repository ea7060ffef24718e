use Rattle.std.proofs.Common.{rules}
use Rattle.poly_tiling.specs.declared.item.Item.TheVariants.{Cell}
use Rattle.poly_tiling.proofs.Coded.{all_map_is}
use Rattle.poly_frame.specs.FrameConsistent.{item_fits}
use Rattle.poly_frame.proofs.frame.right.piece_and_cells_fit.Goals as goal

pub returns : goal.returns
returns c =
    let e = all_map_is (λ i. item_fits c.args.node.now.view.now c.args.node.now.trail.now i) (λ c. Cell c) c.args.cells.now in
    rw e (search (rules, c.cells_fit.ensures))
