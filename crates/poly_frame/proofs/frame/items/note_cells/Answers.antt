use Rattle.std.proofs.Common.{ap, append_assoc, arith, ◌++◌, ◌∙◌}
use Rattle.poly_frame.proofs.FrameItems.{noted_cell}
use Rattle.poly_frame.proofs.frame.items.note_cells.Goals as goal

pub loop-cell-preserved : goal.loop-cell-preserved
loop-cell-preserved c =
    let inv = c.loop-cell.invariant in
    let more = c.note_item.ensures in
    record {
      len = omega arith;
      capacity = more.capacity ∙ inv.capacity;
      indices = (
        inv.indices.0 ++ more.indices.0,
        more.indices.1 ∙ ap (λ xs. xs ++ more.indices.0) inv.indices.1 ∙ append_assoc c.args.noted.now.items inv.indices.0 more.indices.0,
        noted_cell c.args.bounds.now c.args.cells.now c.loop-cell.cell-index c.cell-item.result inv.indices.0 more.indices.0 c.requires.ascending c.loop-cell-test.true c.cell-item.is inv.indices.2 more.indices.2,
      );
    }
