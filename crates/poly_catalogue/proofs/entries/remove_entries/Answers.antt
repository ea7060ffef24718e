use Rattle.std.proofs.Common.{arith, get_or, refl, ◌∙◌}
use Rattle.poly_catalogue.specs.Rows.{at, row, span}
use Rattle.poly_catalogue.proofs.Left.{has_entry, left_all, left_more, span_number, span_part}
use Rattle.poly_catalogue.proofs.entries.remove_entries.Goals as goal

pub loop-nth-init : goal.loop-nth-init
loop-nth-init c = record { even = refl; agree = c.requires.agree }

pub remove_entry-requires-clause-has : goal.remove_entry-requires-clause-has
remove_entry-requires-clause-has c = has_entry c.args.tilings.now c.loop-nth.positions c.loop-nth.rows c.args.tiling c.loop-nth.nth c.args.count c.loop-nth-test.true c.requires.count c.loop-nth.invariant.agree

pub loop-nth-preserved : goal.loop-nth-preserved
loop-nth-preserved c =
    let ts = c.args.tilings.now in
    let t = c.args.tiling in
    let n = c.loop-nth.nth in
    record {
      even = c.remove_entry.ensures.even ∙ c.loop-nth.invariant.even;
      agree = left_more (at ts) (at c.remove_entry.new.positions) (at c.remove_entry.new.rows) t n c.args.count c.loop-nth-test.true
          (c.remove_entry.ensures.gone (span (at ts) t n c.args.count) (get_or (row ts t) n 0)
          (span_part (at ts) t n c.args.count) c.loop-nth.invariant.agree (span_number ts t n c.args.count c.loop-nth-test.true c.requires.count));
    }

pub returns-clause-gone : goal.returns-clause-gone
returns-clause-gone c = left_all (at c.args.tilings.now) (at c.loop-nth.positions) (at c.loop-nth.rows) c.args.tiling c.loop-nth.nth c.args.count (omega arith) c.loop-nth.invariant.agree
