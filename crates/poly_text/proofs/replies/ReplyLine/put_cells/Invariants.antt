use Rattle.std.proofs.Common.{◌≡◌, ◌≤◌, ◌+◌, ◌*◌, ◌++◌, take, length}
use Rattle.poly_text.specs.Replies.{cells_text}
use Rattle.poly_text.proofs.replies.ReplyLine.put_cells.Given as goal

abbrev pub invariant-loop-i : goal.invariant-loop-i
invariant-loop-i l = record {
  text : l.self ≡ l.fn.self ++ cells_text (take l.i l.cells);
  short : length l.self ≤ length l.fn.self + 6 * l.i;
}
