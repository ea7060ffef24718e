use Rattle.std.proofs.Common.{arith, get_or, sym, ◌∙◌}
use Rattle.poly_catalogue.proofs.Counted.{low_row}
use Rattle.poly_catalogue.proofs.Sums.{gone_end, gone_start, gone_step}
use Rattle.poly_catalogue.proofs.marks.having.Goals as goal

pub loop-number-init : goal.loop-number-init
loop-number-init c = gone_start c.args.listing.now c.args.numbers.now c.in_ok-marks.marks.items c.len.result c.len.ensures c.in_ok-marks.ensures.ok

pub mark_all-requires : goal.mark_all-requires
mark_all-requires c =
    λ t h.
    let low = low_row c.args.listing.now t (get_or c.args.numbers.now c.loop-number.number-index 0) (sym (c.indices.ensures.exact t) ∙ h) in
    omega (arith, c.loop-number.invariant.long)

pub loop-number-preserved : goal.loop-number-preserved
loop-number-preserved c =
    gone_step c.args.listing.now c.args.numbers.now c.loop-number.number-index c.loop-number.marks.items c.mark_all.new.marks.items c.indices.result.now c.loop-number-test.true
    c.loop-number.invariant c.indices.ensures c.mark_all.ensures.long c.mark_all.ensures.marks

pub returns-clause-ok : goal.returns-clause-ok
returns-clause-ok c = gone_end c.args.listing.now c.args.numbers.now c.loop-number.number-index c.loop-number.marks.items c.loop-number-test.false c.loop-number.invariant
