use Rattle.std.proofs.Common.{◌+◌, ◌*◌, ◌∷◌, [], arith, ◌∙◌}
use Rattle.poly_text.proofs.Boards.{insert_last, before_more, before_append}
use Rattle.poly_text.proofs.puzzle.board.put_cell.Goals as goal

pub returns-in_ok-insert-clause-ok : goal.returns-in_ok-insert-clause-ok
returns-in_ok-insert-clause-ok c = rw c.in-Some.is (c.in_ok-insert.ensures.entries ∙ insert_last c.args.cell c.in-Some.mode c.args.cells.now.entries c.requires.fits c.requires.after)

pub returns-in_ok-insert-clause-before : goal.returns-in_ok-insert-clause-before
returns-in_ok-insert-clause-before c =
    let place = 64 * c.args.cell.y + (c.args.cell.x + 1) in
    rw (c.in_ok-insert.ensures.entries ∙ insert_last c.args.cell c.in-Some.mode c.args.cells.now.entries c.requires.fits c.requires.after)
    (before_append place c.args.cells.now.entries ((c.args.cell, c.in-Some.mode) ∷ []) (before_more _ place c.args.cells.now.entries (omega arith) c.requires.after) (omega arith, c.requires.fits, tt))

pub returns-in_default-clause-before : goal.returns-in_default-clause-before
returns-in_default-clause-before c = before_more _ (64 * c.args.cell.y + (c.args.cell.x + 1)) c.args.cells.now.entries (omega arith) c.requires.after
