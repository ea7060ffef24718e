use Rattle.std.proofs.Common.{refl}
use Rattle.poly_design.proofs.Flags.{flags_none}
use Rattle.poly_design.proofs.board.Board.empty.Goals as goal

pub invariant_of-result : goal.invariant_of-result
invariant_of-result c = rw c.new.ensures.items (flags_none c.in_ok-flags.flags.items 4096 c.in_ok-flags.ensures.ok refl)
