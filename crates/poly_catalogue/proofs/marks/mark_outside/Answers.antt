use Rattle.std.proofs.Common.{ap, arith, length, not, refl, sym, ◌<◌, ◌∙◌}
use Rattle.std.proofs.lemmas.List.{length-set}
use Rattle.poly_catalogue.proofs.Marked.{marking_all, marking_first, marking_more}
use Rattle.poly_catalogue.proofs.marks.mark_outside.Goals as goal

pub loop-index-init : goal.loop-index-init
loop-index-init c = record { long = refl; marks = λ p list e h. marking_first (λ T. not (p T)) list c.args.marks.now.items e }

pub loop-index-preserved : goal.loop-index-preserved
loop-index-preserved c = record {
  long = ap length c.mark_if.ensures ∙ length-set c.loop-index.marks.items c.loop-index.index _ ∙ c.loop-index.invariant.long;
  marks = λ p list e h.
      let low : c.loop-index.index < length list = omega (arith, e, c.loop-index.invariant.long) in
      marking_more (λ T. not (p T)) list c.args.marks.now.items c.loop-index.marks.items c.mark_if.new.marks.items c.loop-index.index (not c.is_between.result) low (c.loop-index.invariant.marks p list e h)
      (ap not (c.is_between.ensures ∙ sym (h c.loop-index.index low))) c.mark_if.ensures;
}

pub returns : goal.returns
returns c = λ p list e h. marking_all (λ T. not (p T)) list c.args.marks.now.items c.loop-index.marks.items c.loop-index.index (omega (arith, e, c.loop-index.invariant.long)) (c.loop-index.invariant.marks p list e h)
