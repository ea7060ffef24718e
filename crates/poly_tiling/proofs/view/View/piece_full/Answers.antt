use Rattle.std.proofs.Common.{rules}
use Rattle.std.specs.Prelude.{nat_le}
use Rattle.poly_tiling.specs.Puzzle.{count, most}
use Rattle.poly_tiling.proofs.Coded.{no_cell}
use Rattle.poly_tiling.proofs.view.View.piece_full.Goals as goal

pub returns : goal.returns
returns c =
    let e = no_cell (λ i. nat_le (most c.args.self.now i) (count c.args.self.now c.args.numbers.now i)) c.args.cells.now in
    rw e (search rules)
