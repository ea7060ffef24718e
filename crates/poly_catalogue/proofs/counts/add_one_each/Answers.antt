use Rattle.std.proofs.Common.{ap, arith, get_or, length, refl, ◌∙◌}
use Rattle.std.proofs.lemmas.List.{length-set}
use Rattle.poly_tiling.proofs.Contained.{at_in}
use Rattle.poly_tiling.proofs.Lists.{in_mem}
use Rattle.poly_catalogue.proofs.Raised.{added_all, added_first, added_step}
use Rattle.poly_catalogue.proofs.counts.add_one_each.Goals as goal

pub loop-index-init : goal.loop-index-init
loop-index-init c = record { long = refl; raised = added_first c.args.indices.now c.args.counts.now.items }

pub add_one-requires : goal.add_one-requires
add_one-requires c =
    let p = get_or c.args.indices.now c.loop-index.index-index 0 in
    omega (arith, c.requires.low p (in_mem c.args.indices.now p (at_in c.args.indices.now c.loop-index.index-index 0 c.loop-index-test.true)), c.loop-index.invariant.long)

pub loop-index-preserved : goal.loop-index-preserved
loop-index-preserved c =
    let p = get_or c.args.indices.now c.loop-index.index-index 0 in
    record {
      long = ap length c.add_one.ensures ∙ length-set c.loop-index.counts.items p _ ∙ c.loop-index.invariant.long;
      raised = added_step c.args.indices.now c.loop-index.index-index c.args.counts.now.items c.loop-index.counts.items c.add_one.new.counts.items c.requires.apart c.loop-index-test.true
          (omega (arith, c.requires.low p (in_mem c.args.indices.now p (at_in c.args.indices.now c.loop-index.index-index 0 c.loop-index-test.true)), c.loop-index.invariant.long))
          c.loop-index.invariant.raised c.add_one.ensures;
    }

pub returns-clause-counts : goal.returns-clause-counts
returns-clause-counts c = added_all c.args.indices.now c.loop-index.index-index c.args.counts.now.items c.loop-index.counts.items c.loop-index-test.false c.loop-index.invariant.raised
