use Rattle.std.proofs.Common.{arith}
use Rattle.std.proofs.lemmas.Grind.{common_steps}
use Rattle.poly_text.proofs.Boards.{board_length}
use Rattle.poly_text.proofs.puzzle.board.is_small.Goals as goal

pub returns-then-count-gt-MAX_CELLS : goal.returns-then-count-gt-MAX_CELLS
returns-then-count-gt-MAX_CELLS c = rw (board_length c.args.rows.now) (grind (arith, common_steps))

pub returns : goal.returns
returns c = rw (board_length c.args.rows.now) (grind (arith, common_steps))
