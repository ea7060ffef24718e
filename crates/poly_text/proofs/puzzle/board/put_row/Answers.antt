use Rattle.std.proofs.Common.{◌+◌, ◌*◌, ◌++◌, take, get_or, arith, sym, ap, ◌∙◌, append_assoc}
use Rattle.poly_text.specs.Board.{open_mode, row_cells, with_mode}
use Rattle.poly_text.proofs.Boards.{before_more, row_more}
use Rattle.poly_text.proofs.puzzle.board.put_row.Goals as goal

pub loop-x-preserved : goal.loop-x-preserved
loop-x-preserved c =
    let i = c.loop-x.invariant in
    let x = c.loop-x.x in
    let y = c.args.y in
    let row = c.args.row.now in
    record {
      before = rw c.cell_at.ensures at c.in_ok-put_cell.ensures.before;
      so_far = (rw (c.cell_at.ensures, c.open_mode.ensures) at c.in_ok-put_cell.ensures.ok) ∙ ap (λ z. z ++ with_mode (record { x = x; y = y }) (open_mode (get_or row x 0))) i.so_far
          ∙ append_assoc c.args.cells.now.entries (row_cells 0 y (take x row)) (with_mode (record { x = x; y = y }) (open_mode (get_or row x 0))) ∙ ap (λ z. c.args.cells.now.entries ++ z) (sym (row_more y x row c.loop-x-test.true));
    }

pub returns-clause-before : goal.returns-clause-before
returns-clause-before c = before_more _ (64 * (c.args.y + 1)) c.loop-x.cells.entries (omega (arith, c.requires.few.1, c.loop-x.auto.x-end)) c.loop-x.invariant.before
