use Rattle.std.proofs.Common.{arith, get_or, length, ◌<◌, ◌∙◌}
use Rattle.poly_catalogue.specs.Rows.{at, row}
use Rattle.poly_catalogue.proofs.Tabled.{copied}
use Rattle.poly_catalogue.proofs.Written.{is_there, read_some}
use Rattle.poly_catalogue.proofs.positions.Positions.copy_row.Goals as goal

pub set-requires : goal.set-requires
set-requires c =
    let low : c.loop-nth.nth < length (row c.loop-nth.self c.args.to) = omega (arith, c.loop-nth.invariant.wide c.args.to, c.requires.same, c.row_width-nth-end.ensures c.args.from c.requires.from, c.loop-nth-test.true) in
    is_there (at c.loop-nth.self c.args.to c.loop-nth.nth) (get_or (row c.loop-nth.self c.args.to) c.loop-nth.nth 0) (read_some c.loop-nth.self c.args.to c.loop-nth.nth low)

pub returns-clause-over : goal.returns-clause-over
returns-clause-over c =
    λ a b.
    c.loop-nth.invariant.over a b
    ∙ copied c.args.self.now c.args.from c.args.to c.loop-nth.nth c.requires.same (omega (arith, c.row_width-nth-end.ensures c.args.from c.requires.from, c.loop-nth-test.false)) a b
