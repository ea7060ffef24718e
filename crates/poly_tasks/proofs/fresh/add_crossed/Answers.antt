use Rattle.std.specs.Arc.{arc_value}
use Rattle.std.proofs.Common.{[], ap, arith, false, get_or, inl, length, refl, subst, sym, true, ◌++◌, ◌+◌, ◌<◌, ◌∙◌, ◌∷◌, ◌≡◌}
use Rattle.std.proofs.lemmas.Bool.{not-false, not-true}
use Rattle.poly_atom.specs.Hopeless.{hopeless}
use Rattle.poly_atom.specs.Stairs.{stairs}
use Rattle.poly_atom.specs.Logs.{stair_of}
use Rattle.poly_tasks.specs.Meaning.{base_of}
use Rattle.poly_tasks.specs.Opens.{Opening}
use Rattle.poly_tasks.proofs.Basing.{base_push, is_base_push}
use Rattle.poly_tasks.proofs.Held.{crossed_from, opening_over}
use Rattle.poly_tasks.proofs.Judging.{base_end, base_more, base_next, base_skip, judged_at, judged_length}
use Rattle.poly_tasks.proofs.fresh.add_crossed.Goals as goal

pub returns-clause-ok : goal.returns-clause-ok
returns-clause-ok c = λ w g log next all rest le b fs o.
    let base = base_of log (arc_value c.args.base.now) in
    subst (λ r. Opening (log ++ g ∷ []) next c.loop-index.number w all r c.loop-index.tasks.items)
    (base_end base g c.loop-index.index rest (omega (arith, c.loop-index-test.false, judged_length w base g c.args.flags.now fs)))
    (c.loop-index.invariant.same w g log next all rest le b fs o)

pub loop-index-preserved-then-not-flags-index : goal.loop-index-preserved-then-not-flags-index
loop-index-preserved-then-not-flags-index c = record {
  same = λ w g log next all rest le b fs o.
      let base = base_of log (arc_value c.args.base.now) in
      let j = c.loop-index.index in
      let low : j < length g = omega (arith, c.loop-index-test.true, judged_length w base g c.args.flags.now fs) in
      let h : hopeless w (base ++ get_or (stairs g) j []) ≡ true = not-false _ (sym (judged_at w base g c.args.flags.now j false fs low) ∙ c.if-not-flags-index.true) in
      base_skip log g next c.loop-index.number w base all rest j c.loop-index.tasks.items low h (c.loop-index.invariant.same w g log next all rest le b fs o);
  count = c.loop-index.invariant.count;
  few = c.loop-index.invariant.few;
}

pub loop-index-preserved : goal.loop-index-preserved
loop-index-preserved c = record {
  same = λ w g log next all rest le b fs o.
      let base = base_of log (arc_value c.args.base.now) in
      let j = c.loop-index.index in
      let low : j < length g = omega (arith, c.loop-index-test.true, judged_length w base g c.args.flags.now fs) in
      let h : hopeless w (base ++ get_or (stairs g) j []) ≡ false = not-true _ (sym (judged_at w base g c.args.flags.now j false fs low) ∙ c.if-not-flags-index.false) in
      let reads = c.in_ok-own.ensures.reads (log ++ g ∷ []) ∙ ap (λ A. A ++ stair_of (log ++ g ∷ []) (record { edition = c.args.edition; index = j })) (base_push log g (arc_value c.args.base.now) b) in
      rw c.in_ok-push.ensures.items (base_more log g next c.loop-index.number w base all rest j c.args.edition c.in_ok-own.own c.loop-index.tasks.items le low h
      reads (c.in_ok-own.ensures.stands (log ++ g ∷ []) (is_base_push log g (arc_value c.args.base.now) b)) (c.loop-index.invariant.same w g log next all rest le b fs o));
  count = grind (arith, c.loop-index.invariant.count);
  few = grind (arith, c.loop-index.invariant.few);
}

pub returns-then-number-gt-LAST-clause-why : goal.returns-then-number-gt-LAST-clause-why
returns-then-number-gt-LAST-clause-why c = inl (
  refl,
  λ w g log next all rest le b fs start o.
      let base = base_of log (arc_value c.args.base.now) in
      let j = c.loop-index.index in
      let low : j < length g = omega (arith, c.loop-index-test.true, judged_length w base g c.args.flags.now fs) in
      let A = base ++ get_or (stairs g) j [] in
      let h : hopeless w A ≡ false = not-true _ (sym (judged_at w base g c.args.flags.now j false fs low) ∙ c.if-not-flags-index.false) in
      let before = c.loop-index.invariant.same w g log next all rest le b fs o in
      let here = subst (λ r. Opening (log ++ g ∷ []) next c.loop-index.number w all r c.loop-index.tasks.items) (base_next base g j rest low) before in
      opening_over (log ++ g ∷ []) next c.loop-index.number w all (crossed_from base g (j + 1) rest) A c.loop-index.tasks.items h here (let n = c.loop-index.invariant.count in omega (arith, n, start)) c.if-number-gt-LAST.true,
)
