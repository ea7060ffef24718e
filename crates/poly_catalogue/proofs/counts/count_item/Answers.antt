use Rattle.std.proofs.Common.{ap, length, refl, ℕ, ◌∙◌}
use Rattle.std.proofs.lemmas.List.{length-replicate}
use Rattle.poly_catalogue.proofs.Raised.{counts_all, counts_first, counts_more}
use Rattle.poly_catalogue.proofs.counts.count_item.Goals as goal

pub loop-number-init : goal.loop-number-init
loop-number-init c = record {
  long = refl;
  counts = counts_first c.args.view.now c.args.item.now c.args.listing.now (length c.args.counts.now.items) c.clear.new.counts.items c.clear.ensures;
}

pub loop-number-preserved : goal.loop-number-preserved
loop-number-preserved c = record {
  long = c.add_covering.ensures.long ∙ c.loop-number.invariant.long;
  counts = counts_more c.args.view.now c.args.item.now c.args.listing.now c.loop-number.number c.loop-number.counts.items c.add_covering.new.counts.items c.loop-number.invariant.counts c.add_covering.ensures.counts;
}

pub returns-clause-long : goal.returns-clause-long
returns-clause-long c = c.loop-number.invariant.long ∙ ap length c.clear.ensures ∙ length-replicate {A = ℕ} (length c.args.counts.now.items) 0

pub returns-clause-counts : goal.returns-clause-counts
returns-clause-counts c = counts_all c.args.view.now c.args.item.now c.args.listing.now c.args.flag_count c.loop-number.number c.loop-number.counts.items c.loop-number-test.false c.requires.flags c.loop-number.invariant.counts
