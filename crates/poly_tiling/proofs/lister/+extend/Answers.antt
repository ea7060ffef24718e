use Rattle.std.proofs.Common.{None, [], ap, arith, length, refl, subst, sym, true, ◌++◌, ◌<◌, ◌∙◌, ◌∷◌, ◌≡◌}
use Rattle.std.specs.List.{filter, find}
use Rattle.std.specs.Option.{IfNone, IfSome}
use Rattle.std.specs.Result.{OnOk}
use Rattle.poly_tiling.specs.Lists.{distinct}
use Rattle.poly_tiling.specs.Puzzle.{count, least}
use Rattle.poly_tiling.specs.Lister.{AddsAtMost, AddsLeft, AreApart, fits_beside, is_option}
use Rattle.poly_tiling.proofs.Lists.{In}
use Rattle.poly_tiling.proofs.Families.{adds_as, adds_wide, all_adds, all_at_most, chosen_once, filter_shorter, find_in, most_as, most_more, most_wide, narrowed_apart, sums_more, without, without_apart, without_shorter}
use Rattle.poly_tiling.proofs.lister.+extend.Goals as goal

pub extend-take-requires : goal.extend-take-requires
extend-take-requires t c =
    let v = c.args.view.now in
    let p = c.in-Some.p in
    let rest = c.loop-p.free.items in
    let there : In p rest = find_in (λ q. is_option v c.unmet_item-item.result q) rest p (ap (λ l. find (λ q. is_option v c.unmet_item-item.result q) l) (sym c.deref-in-loop-p.ensures.value) ∙ sym c.in-Some.ensures) in
    let is : c.deref-in-Some.result.now ≡ without p rest = c.deref-in-Some.ensures.value ∙ c.take_out.ensures in
    let short = without_shorter p rest there in (
      omega (arith, ap length is, short, c.loop-p.invariant.fewer),
      (
        ap (λ l. distinct (l ++ p ∷ [])) c.loop-p.invariant.same ∙ chosen_once c.args.chosen.now.items rest p c.loop-p.invariant.apart there,
        c.loop-p.invariant.few,
      ),
    )

pub extend-loop-p-smaller : goal.extend-loop-p-smaller
extend-loop-p-smaller t c =
    let v = c.args.view.now in
    let p = c.in-Some.p in
    let rest = c.loop-p.free.items in
    let there : In p rest = find_in (λ q. is_option v c.unmet_item-item.result q) rest p (ap (λ l. find (λ q. is_option v c.unmet_item-item.result q) l) (sym c.deref-in-loop-p.ensures.value) ∙ sym c.in-Some.ensures) in
    let short = without_shorter p rest there in
    omega (arith, ap length c.take_out.ensures, short)

pub extend-loop-p-preserved : goal.extend-loop-p-preserved
extend-loop-p-preserved t c =
    let v = c.args.view.now in
    let p = c.in-Some.p in
    let rest = c.loop-p.free.items in
    let chosen = c.args.chosen.now.items in
    let there : In p rest = find_in (λ q. is_option v c.unmet_item-item.result q) rest p (ap (λ l. find (λ q. is_option v c.unmet_item-item.result q) l) (sym c.deref-in-loop-p.ensures.value) ∙ sym c.in-Some.ensures) in
    let short = without_shorter p rest there in
    let is : c.deref-in-Some.result.now ≡ without p rest = c.deref-in-Some.ensures.value ∙ c.take_out.ensures in
    let adds = adds_as v (c.loop-p.chosen.items ++ p ∷ []) (chosen ++ p ∷ []) c.deref-in-Some.result.now (without p rest) c.loop-p.found.items c.take.new.found.items (ap (λ l. l ++ p ∷ []) c.loop-p.invariant.same) is c.in_ok-take.ensures.adds in
    record {
      same = c.in_ok-take.ensures.same ∙ c.loop-p.invariant.same;
      sums = rw c.take_out.ensures (sums_more v chosen c.args.free.items rest p c.args.found.now.items c.loop-p.found.items c.take.new.found.items c.loop-p.invariant.apart there c.loop-p.invariant.sums adds);
      apart = rw c.take_out.ensures (without_apart chosen rest p c.loop-p.invariant.apart);
      fewer = omega (arith, ap length c.take_out.ensures, short, c.loop-p.invariant.fewer);
      few = c.in_ok-take.ensures.few;
    }

pub extend-returns-in_err-take-clause-at_most : goal.extend-returns-in_err-take-clause-at_most
extend-returns-in_err-take-clause-at_most t c =
    let v = c.args.view.now in
    let p = c.in-Some.p in
    let rest = c.loop-p.free.items in
    let chosen = c.args.chosen.now.items in
    let there : In p rest = find_in (λ q. is_option v c.unmet_item-item.result q) rest p (ap (λ l. find (λ q. is_option v c.unmet_item-item.result q) l) (sym c.deref-in-loop-p.ensures.value) ∙ sym c.in-Some.ensures) in
    let is : c.deref-in-Some.result.now ≡ without p rest = c.deref-in-Some.ensures.value ∙ c.take_out.ensures in
    most_more v chosen c.args.free.items rest p c.args.found.now.items c.loop-p.found.items c.take.new.found.items c.loop-p.invariant.apart there c.loop-p.invariant.sums
    (most_as v (c.loop-p.chosen.items ++ p ∷ []) (chosen ++ p ∷ []) c.deref-in-Some.result.now (without p rest) c.loop-p.found.items c.take.new.found.items (ap (λ l. l ++ p ∷ []) c.loop-p.invariant.same) is c.in_err-take.ensures.at_most)

pub extend-returns-clause-adds : goal.extend-returns-clause-adds
extend-returns-clause-adds t c =
    let v = c.args.view.now in
    let item = c.unmet_item-item.result in
    let now = c.loop-p.found.items in
    let new = c.finish.new.found.items in
    let chosen = c.args.chosen.now.items in
    let gone : find (λ q. is_option v item q) c.loop-p.free.items ≡ None = ap (λ l. find (λ q. is_option v item q) l) (sym c.deref-in-loop-p.ensures.value) ∙ sym c.next_option.ensures ∙ c.in_default.is in
    let unmet : IfSome item (λ i. count v chosen i < least v i) = subst (λ l. IfSome item (λ i. count v l i < least v i)) c.deref.ensures.value c.unmet_item-item.ensures in
    all_adds c.finish.result v chosen c.args.free.items c.loop-p.free.items item c.args.found.now.items now new c.loop-p.invariant.sums gone unmet c.finish.ensures.some
    (subst (λ l. IfNone item (OnOk c.finish.result (AddsLeft v l [] now new))) (c.deref-3.ensures.value ∙ c.loop-p.invariant.same) c.finish.ensures.adds)

pub extend-returns-clause-at_most : goal.extend-returns-clause-at_most
extend-returns-clause-at_most t c =
    let v = c.args.view.now in
    let item = c.unmet_item-item.result in
    let now = c.loop-p.found.items in
    let new = c.finish.new.found.items in
    let chosen = c.args.chosen.now.items in
    let gone : find (λ q. is_option v item q) c.loop-p.free.items ≡ None = ap (λ l. find (λ q. is_option v item q) l) (sym c.deref-in-loop-p.ensures.value) ∙ sym c.next_option.ensures ∙ c.in_default.is in
    let unmet : IfSome item (λ i. count v chosen i < least v i) = subst (λ l. IfSome item (λ i. count v l i < least v i)) c.deref.ensures.value c.unmet_item-item.ensures in
    all_at_most v chosen c.args.free.items c.loop-p.free.items item c.args.found.now.items now new c.loop-p.invariant.sums gone unmet c.finish.ensures.some
    (subst (λ l. IfNone item (AddsAtMost v l [] now new)) (c.deref-3.ensures.value ∙ c.loop-p.invariant.same) c.finish.ensures.at_most)

pub take-extend-requires : goal.take-extend-requires
take-extend-requires t c =
    let v = c.args.view.now in
    let pushed = c.push.new.self.items in
    let free = c.args.free.now in
    let once : distinct pushed ≡ true = ap (λ l. distinct l) c.in_ok-push.ensures.items ∙ c.requires.once in
    let is : c.in_ok-narrowed.narrowed.items ≡ filter (λ q. fits_beside v pushed q) free = c.in_ok-narrowed.ensures.ok ∙ ap (λ l. filter (λ q. fits_beside v l q) free) c.deref.ensures.value in (
      omega (arith, ap length is, filter_shorter (λ q. fits_beside v pushed q) free),
      (subst (λ l. AreApart pushed l) (sym is) (narrowed_apart v pushed free once), c.requires.few),
    )

pub take-returns-in_err-extend-clause-at_most : goal.take-returns-in_err-extend-clause-at_most
take-returns-in_err-extend-clause-at_most t c =
    let v = c.args.view.now in
    let pushed = c.push.new.self.items in
    let free = c.args.free.now in
    let old = c.args.found.now.items in
    let new = c.extend.new.found.items in
    let once : distinct pushed ≡ true = ap (λ l. distinct l) c.in_ok-push.ensures.items ∙ c.requires.once in
    let is : c.in_ok-narrowed.narrowed.items ≡ filter (λ q. fits_beside v pushed q) free = c.in_ok-narrowed.ensures.ok ∙ ap (λ l. filter (λ q. fits_beside v l q) free) c.deref.ensures.value in
    most_as v pushed (c.args.chosen.now.items ++ c.args.p ∷ []) free free old new c.in_ok-push.ensures.items refl
    (most_wide v pushed free old new once (most_as v pushed pushed c.in_ok-narrowed.narrowed.items (filter (λ q. fits_beside v pushed q) free) old new refl is c.in_err-extend.ensures.at_most))

pub take-returns-clause-adds : goal.take-returns-clause-adds
take-returns-clause-adds t c =
    let v = c.args.view.now in
    let pushed = c.push.new.self.items in
    let free = c.args.free.now in
    let old = c.args.found.now.items in
    let new = c.extend.new.found.items in
    let once : distinct pushed ≡ true = ap (λ l. distinct l) c.in_ok-push.ensures.items ∙ c.requires.once in
    let is : c.in_ok-narrowed.narrowed.items ≡ filter (λ q. fits_beside v pushed q) free = c.in_ok-narrowed.ensures.ok ∙ ap (λ l. filter (λ q. fits_beside v l q) free) c.deref.ensures.value in
    adds_as v pushed (c.args.chosen.now.items ++ c.args.p ∷ []) free free old new c.in_ok-push.ensures.items refl
    (adds_wide v pushed free old new once (adds_as v pushed pushed c.in_ok-narrowed.narrowed.items (filter (λ q. fits_beside v pushed q) free) old new refl is c.in_ok-extend.ensures.adds))

pub take-returns-clause-at_most : goal.take-returns-clause-at_most
take-returns-clause-at_most t c =
    let v = c.args.view.now in
    let pushed = c.push.new.self.items in
    let free = c.args.free.now in
    let old = c.args.found.now.items in
    let new = c.extend.new.found.items in
    let once : distinct pushed ≡ true = ap (λ l. distinct l) c.in_ok-push.ensures.items ∙ c.requires.once in
    let is : c.in_ok-narrowed.narrowed.items ≡ filter (λ q. fits_beside v pushed q) free = c.in_ok-narrowed.ensures.ok ∙ ap (λ l. filter (λ q. fits_beside v l q) free) c.deref.ensures.value in
    most_as v pushed (c.args.chosen.now.items ++ c.args.p ∷ []) free free old new c.in_ok-push.ensures.items refl
    (most_wide v pushed free old new once (most_as v pushed pushed c.in_ok-narrowed.narrowed.items (filter (λ q. fits_beside v pushed q) free) old new refl is c.in_ok-extend.ensures.at_most))
