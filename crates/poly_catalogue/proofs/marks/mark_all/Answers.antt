use Rattle.std.proofs.Common.{ap, arith, get_or, length, refl, ◌∙◌}
use Rattle.std.proofs.lemmas.List.{length-set}
use Rattle.poly_tiling.proofs.Contained.{at_in}
use Rattle.poly_tiling.proofs.Lists.{in_mem}
use Rattle.poly_catalogue.proofs.Sums.{marks_end, marks_start, marks_step}
use Rattle.poly_catalogue.proofs.marks.mark_all.Goals as goal

pub loop-index-init : goal.loop-index-init
loop-index-init c = record { long = refl; set = marks_start c.args.indices.now c.args.marks.now.items }

pub mark-requires : goal.mark-requires
mark-requires c =
    let p = get_or c.args.indices.now c.loop-index.index-index 0 in
    omega (arith, c.requires p (in_mem c.args.indices.now p (at_in c.args.indices.now c.loop-index.index-index 0 c.loop-index-test.true)), c.loop-index.invariant.long)

pub loop-index-preserved : goal.loop-index-preserved
loop-index-preserved c =
    let p = get_or c.args.indices.now c.loop-index.index-index 0 in
    record {
      long = ap length c.mark.ensures ∙ length-set c.loop-index.marks.items p _ ∙ c.loop-index.invariant.long;
      set = marks_step c.args.indices.now c.loop-index.index-index c.args.marks.now.items c.loop-index.marks.items c.mark.new.marks.items c.loop-index-test.true
          (omega (arith, c.requires p (in_mem c.args.indices.now p (at_in c.args.indices.now c.loop-index.index-index 0 c.loop-index-test.true)), c.loop-index.invariant.long))
          c.loop-index.invariant.set c.mark.ensures;
    }

pub returns-clause-marks : goal.returns-clause-marks
returns-clause-marks c = marks_end c.args.indices.now c.loop-index.index-index c.args.marks.now.items c.loop-index.marks.items c.loop-index-test.false c.loop-index.invariant.set
