use Rattle.std.proofs.Common.{◌≡◌, ◌+◌, ◌*◌, arith}
use Rattle.poly_design.proofs.Flags.{flags_more}
use Rattle.poly_design.proofs.board.Board.add.Goals as goal

pub invariant_of-self-2 : goal.invariant_of-self-2
invariant_of-self-2 c =
    let at : 64 * c.from.result + c.from-2.result ≡ 64 * c.args.cell.y + c.args.cell.x = omega arith in
    rw c.in_ok-push.ensures.items (flags_more c.self.inside.cells.items c.self.inside.flags.items c.args.cell _ c.self.invariant (omega arith) (omega arith) at)
