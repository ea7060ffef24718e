use Rattle.std.proofs.Common.{sym, ◌∙◌}
use Rattle.poly_text.proofs.Boards.{board_bounds, rows_more}
use Rattle.poly_text.proofs.puzzle.board.cells_of_rows.Goals as goal

pub put_row-requires-clause-few : goal.put_row-requires-clause-few
put_row-requires-clause-few c = rw (c.as_bytes.ensures.value, c.text.ensures) (board_bounds c.args.rows.now c.loop-y.y c.index-rows-y.result c.requires c.loop-y-test.true c.index-rows-y.is)

pub loop-y-preserved : goal.loop-y-preserved
loop-y-preserved c =
    record {
      before = c.in_ok-put_row.ensures.before;
      so_far = (rw (c.as_bytes.ensures.value, c.text.ensures, c.loop-y.invariant.so_far) at c.in_ok-put_row.ensures.ok) ∙ sym (rows_more c.loop-y.y c.args.rows.now c.index-rows-y.result c.loop-y-test.true c.index-rows-y.is);
    }
