use Rattle.std.proofs.Common.{◌∷◌, [], length, ap, ◌∙◌, arith, length-append}
use Rattle.poly_text.proofs.Digits.{text_first, text_next}
use Rattle.poly_text.proofs.replies.ReplyLine.put_cells.Goals as goal
use Rattle.poly_text.proofs.replies.ReplyLine.put_cells.Goals.{then-i-gt0, else-i-gt0}

pub loop-i-preserved : goal.loop-i-preserved
loop-i-preserved c =
    let i = c.loop-i.invariant in
    record {
      text = elim c.if-i-gt0.branch [
        | then-i-gt0 w ↦ text_next c.loop-i.i c.args.cells.now _ _ _ _ _ w.if-i-gt0.true c.loop-i-test.true c.index-cells-i.is i.text (w.self-is ∙ w.put.ensures) c.put_cell.ensures.text
        | else-i-gt0 w ↦ text_first c.loop-i.i c.args.cells.now _ _ _ _ _ (omega arith) c.loop-i-test.true c.index-cells-i.is i.text w.self-is c.put_cell.ensures.text
      ];
      short = elim c.if-i-gt0.branch [
        | then-i-gt0 w ↦ omega (arith, i.short, ap length w.self-is, ap length w.put.ensures, length-append c.loop-i.self (47 ∷ []), c.put_cell.ensures.short)
        | else-i-gt0 w ↦ omega (arith, i.short, ap length w.self-is, c.put_cell.ensures.short)
      ];
    }
