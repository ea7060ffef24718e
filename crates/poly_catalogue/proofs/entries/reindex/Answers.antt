use Rattle.std.proofs.Common.{ap, arith, length, ◌∙◌, ◌≡◌}
use Rattle.poly_catalogue.specs.Rows.{at, row}
use Rattle.poly_catalogue.proofs.Left.{moves_all, moves_first}
use Rattle.poly_catalogue.proofs.Written.{row_read}
use Rattle.poly_catalogue.proofs.entries.reindex.Goals as goal

pub loop-nth-init : goal.loop-nth-init
loop-nth-init c = moves_first (at c.args.tilings.now) (at c.args.positions.now) (at c.args.rows.now) c.args.from c.args.to c.requires.agree

pub reindex_entry-requires-clause-agree : goal.reindex_entry-requires-clause-agree
reindex_entry-requires-clause-agree c = c.loop-nth.invariant

pub loop-nth-preserved : goal.loop-nth-preserved
loop-nth-preserved c = c.reindex_entry.ensures

pub returns : goal.returns
returns c =
    let is : c.numbers-nth-end.result.now ≡ row c.args.tilings.now c.args.from = c.numbers-nth-end.ensures.value ∙ row_read c.args.tilings.now c.args.from c.index-tilings-from.result c.requires.there c.index-tilings-from.is in
    let long : length c.numbers-nth-end.result.now ≡ length (row c.args.tilings.now c.args.from) = ap length is in
    moves_all c.args.tilings.now (at c.args.positions.now) (at c.loop-nth.rows) c.args.from c.args.to c.loop-nth.nth (omega arith) c.loop-nth.invariant
