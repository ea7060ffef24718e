use Rattle.std.proofs.Common.{rules}
use Rattle.poly_board.proofs.Steps.{begins, copies}
use Rattle.poly_board.proofs.board.Board.new.Goals as goal

pub of_words-requires : goal.of_words-requires
of_words-requires c = begins _ _ c.pack.ensures

pub split_seat-other-requires : goal.split_seat-other-requires
split_seat-other-requires c = (search rules, search rules, copies _ _)
