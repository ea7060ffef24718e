use Rattle.std.proofs.Common.{arith, ◌-◌}
use Rattle.poly_catalogue.proofs.Raised.{sweeping_all, sweeping_first, sweeping_more}
use Rattle.poly_catalogue.proofs.keep.drop_outside.Goals as goal

pub loop-index-init : goal.loop-index-init
loop-index-init c = sweeping_first c.args.listing.now c.args.counts.now c.args.least c.args.most c.len-index.result c.len-index.ensures

pub is_between-requires : goal.is_between-requires
is_between-requires c = omega (arith, c.loop-index.invariant.start, c.requires)

pub drop_unless-requires : goal.drop_unless-requires
drop_unless-requires c = omega (arith, c.loop-index.invariant.low)

pub loop-index-preserved : goal.loop-index-preserved
loop-index-preserved c =
    sweeping_more c.args.listing.now c.loop-index.listing c.drop_unless.new.listing c.args.counts.now c.args.least c.args.most (c.loop-index.index - 1) c.loop-index.index c.is_between.result (omega arith)
    c.loop-index.invariant c.is_between.ensures c.drop_unless.ensures.front c.drop_unless.ensures.long c.drop_unless.ensures.tally

pub returns : goal.returns
returns c = sweeping_all c.args.listing.now c.loop-index.listing c.args.counts.now c.args.least c.args.most c.loop-index.index (omega arith) c.loop-index.invariant
