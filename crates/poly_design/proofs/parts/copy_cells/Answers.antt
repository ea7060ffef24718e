use Rattle.std.specs.Map.{keys_of}
use Rattle.poly_shape.specs.Order.{spot_cmp, spot_total}
use Rattle.poly_design.proofs.Sets.{ascending_from_sorted}
use Rattle.poly_design.proofs.Entries.{copied_more}
use Rattle.poly_design.proofs.parts.copy_cells.Goals as goal

pub loop-cell-preserved : goal.loop-cell-preserved
loop-cell-preserved c = copied_more spot_total c.args.cells.now.entries c.loop-cell.copy.entries _ _ _ c.in-Some.cell.now c.in-Some.mode.now
    (ascending_from_sorted spot_cmp (keys_of c.args.cells.now.entries) c.into_iter-cell-iterator.ensures.into_iter_gives.5)
    c.loop-cell.invariant c.in-Some.ensures.steps c.in_ok-insert.ensures.entries
