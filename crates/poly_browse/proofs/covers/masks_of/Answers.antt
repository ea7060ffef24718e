use Rattle.std.proofs.Common.{ap, arith, eqb, false, get_or, length, subst, sym, ◌&&◌, ◌||◌, ◌∙◌, ◌≡◌}
use Rattle.std.proofs.lemmas.List.{get_or_read}
use Rattle.poly_browse.specs.Lines.{in_mask}
use Rattle.poly_browse.proofs.Masked.{IsPacked, packed_all, packed_more, packed_none}
use Rattle.poly_browse.proofs.covers.masks_of.Goals as goal

pub loop-at-init : goal.loop-at-init
loop-at-init c = packed_none c.args.view.now c.args.items.now _ c.new-masks.ensures.items

pub loop-at-preserved : goal.loop-at-preserved
loop-at-preserved c =
    let at = c.loop-at.at in
    let old = c.loop-at.masks.items in
    let flags = c.in_ok-flags.flags.items in
    let i = c.index-items-at.result in
    packed_more c.args.view.now c.args.items.now i at old c.mark.new.masks.items c.loop-at.wanted (λ n. get_or flags n false) (omega (arith, c.requires.few, c.loop-at-test.true))
    (λ d. sym (get_or_read c.args.items.now at i c.loop-at-test.true c.index-items-at.is d)) c.in_ok-flags.ensures.ok
    (λ n t. c.in_ok-mark.ensures.ok n t ∙ ap (λ l. in_mask old n t || (get_or l n false && eqb at t)) c.deref.ensures.value) c.loop-at.invariant

pub returns-clause-ok : goal.returns-clause-ok
returns-clause-ok c =
    let whole : c.loop-at.at ≡ length c.args.items.now = omega arith in
    λ T small. packed_all c.args.view.now c.args.items.now c.loop-at.masks.items c.loop-at.wanted T small (subst (λ k. IsPacked c.args.view.now c.args.items.now k c.loop-at.masks.items c.loop-at.wanted) whole c.loop-at.invariant)
