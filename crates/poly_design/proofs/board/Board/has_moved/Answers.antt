use Rattle.std.proofs.Common.{◌≡◌, ◌+◌, ◌*◌, arith}
use Rattle.poly_design.proofs.Flags.{flag_says}
use Rattle.poly_design.proofs.board.Board.has_moved.Goals as goal

pub returns : goal.returns
returns c =
    let at : 64 * (c.from-3.result + c.from-4.result) + (c.from.result + c.from-2.result) ≡ 64 * (c.args.cell.y + c.args.down) + (c.args.cell.x + c.args.right) = omega arith in
    rw (← c.self.view_is) (flag_says c.self.inside.cells.items c.self.inside.flags.items c.args.right c.args.down c.args.cell _ _ c.self.invariant (omega arith) (omega arith) at c.index.ensures)
