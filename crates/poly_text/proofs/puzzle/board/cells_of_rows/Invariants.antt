use Rattle.std.proofs.Common.{◌≡◌, ◌*◌, take}
use Rattle.poly_text.specs.Board.{AreBefore, cells_from}
use Rattle.poly_text.specs.Views.{rows_of}
use Rattle.poly_text.proofs.puzzle.board.cells_of_rows.Given as goal

abbrev pub invariant-loop-y : goal.invariant-loop-y
invariant-loop-y l = record {
  before : AreBefore (64 * l.y) l.cells.entries;
  so_far : l.cells.entries ≡ cells_from 0 (rows_of (take l.y l.rows));
}
