use Rattle.std.proofs.Common.{List, [], ap, arith, get_or, inl, length, refl, replicate, subst, sym, take, ◌++◌, ◌+◌, ◌<◌, ◌∙◌, ◌∷◌, ◌≡◌, false, true}
use Rattle.std.proofs.lemmas.Bool.{not-false, not-true}
use Rattle.std.proofs.lemmas.List.{length-replicate}
use Rattle.poly_atom.specs.declared.atom.Atom.{Atom}
use Rattle.poly_atom.specs.declared.atom.Atom.TheVariants.{Has}
use Rattle.poly_atom.specs.Atoms.{negated}
use Rattle.poly_atom.specs.Hopeless.{hopeless}
use Rattle.poly_atom.specs.Stairs.{stairs}
use Rattle.poly_tasks.specs.Opens.{Opening}
use Rattle.poly_tasks.proofs.Held.{opening_end, opening_over, stairs_end, stairs_from, stairs_more, stairs_next, stairs_skip}
use Rattle.poly_tasks.proofs.Judging.{judged_at, judged_length, stair_next}
use Rattle.poly_tasks.proofs.fresh.flagged_stairs.Goals as goal

pub returns-clause-ok : goal.returns-clause-ok
returns-clause-ok c = λ w g log le fs. opening_end (log ++ g ∷ []) c.args.next c.loop-index.number w (stairs g) (stairs_from g c.loop-index.index) c.loop-index.tasks.items
    (stairs_end g c.loop-index.index (omega (arith, c.loop-index-test.false, judged_length w [] g c.args.flags.now fs))) (c.loop-index.invariant.same w g log le fs)

pub loop-index-preserved-then-not-flags-index : goal.loop-index-preserved-then-not-flags-index
loop-index-preserved-then-not-flags-index c = record {
  same = λ w g log le fs.
      let j = c.loop-index.index in
      let low : j < length g = omega (arith, c.loop-index-test.true, judged_length w [] g c.args.flags.now fs) in
      let A : List Atom = take j g ++ negated (get_or g j (Has 0)) ∷ [] in
      let h : hopeless w A ≡ true = ap (λ B. hopeless w B) (stair_next [] g j (Has 0) low) ∙ not-false _ (sym (judged_at w [] g c.args.flags.now j false fs low) ∙ c.if-not-flags-index.true) in
      stairs_skip log g c.args.next c.loop-index.number w j (Has 0) A c.loop-index.tasks.items low refl h (c.loop-index.invariant.same w g log le fs);
  number = c.loop-index.invariant.number;
  few = c.loop-index.invariant.few;
}

pub loop-index-preserved : goal.loop-index-preserved
loop-index-preserved c = record {
  same = λ w g log le fs.
      let j = c.loop-index.index in
      let low : j < length g = omega (arith, c.loop-index-test.true, judged_length w [] g c.args.flags.now fs) in
      let A : List Atom = take j g ++ negated (get_or g j (Has 0)) ∷ [] in
      let h : hopeless w A ≡ false = ap (λ B. hopeless w B) (stair_next [] g j (Has 0) low) ∙ not-true _ (sym (judged_at w [] g c.args.flags.now j false fs low) ∙ c.if-not-flags-index.false) in
      rw c.in_ok-push.ensures.items (stairs_more log g c.args.next c.loop-index.number w j c.args.edition (Has 0) A c.loop-index.tasks.items le low refl h (c.loop-index.invariant.same w g log le fs));
  number = grind (arith, c.loop-index.invariant.number);
  few = grind (arith, c.loop-index.invariant.few);
}

pub returns-then-number-gt-LAST-clause-why : goal.returns-then-number-gt-LAST-clause-why
returns-then-number-gt-LAST-clause-why c = inl (
  refl,
  λ w g fs.
      let j = c.loop-index.index in
      let low : j < length g = omega (arith, c.loop-index-test.true, judged_length w [] g c.args.flags.now fs) in
      let A : List Atom = take j g ++ negated (get_or g j (Has 0)) ∷ [] in
      let h : hopeless w A ≡ false = ap (λ B. hopeless w B) (stair_next [] g j (Has 0) low) ∙ not-true _ (sym (judged_at w [] g c.args.flags.now j false fs low) ∙ c.if-not-flags-index.false) in
      let log : List (List Atom) = replicate c.args.edition [] in
      let before = c.loop-index.invariant.same w g log (length-replicate c.args.edition []) fs in
      let next = subst (λ r. Opening (log ++ g ∷ []) c.args.next c.loop-index.number w (stairs g) r c.loop-index.tasks.items) (stairs_next g j (Has 0) low) before in
      opening_over (log ++ g ∷ []) c.args.next c.loop-index.number w (stairs g) (stairs_from g (j + 1)) A c.loop-index.tasks.items h next c.loop-index.invariant.number c.if-number-gt-LAST.true,
)
