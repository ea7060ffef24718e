use Rattle.std.proofs.Common.{◌≡◌, ◌+◌, ◌*◌, ◌++◌, take}
use Rattle.poly_text.specs.Board.{AreBefore, row_cells}
use Rattle.poly_text.proofs.puzzle.board.put_row.Given as goal

abbrev pub invariant-loop-x : goal.invariant-loop-x
invariant-loop-x l = record {
  before : AreBefore (64 * l.y + l.x) l.cells.entries;
  so_far : l.cells.entries ≡ l.fn.cells.entries ++ row_cells 0 l.y (take l.x l.row);
}
