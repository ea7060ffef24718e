use Rattle.std.proofs.Common.{ap, filter, map, nat_lt, not, subst, sym, ◌∙◌, ◌≡◌}
use Rattle.poly_tiling.specs.Lists.{mem}
use Rattle.poly_tiling.specs.Names.{in_order, items_ascend}
use Rattle.poly_tiling.specs.Puzzle.{bound_in}
use Rattle.poly_atom.specs.declared.atom.Atom.TheVariants.{AtLeast, AtMost, Has, Lacks}
use Rattle.poly_atom.specs.Atoms.{AllSmall}
use Rattle.poly_atom.specs.Guards.{guards}
use Rattle.poly_atom.proofs.Joined.{joined_four}
use Rattle.poly_atom.proofs.Merge.{least_walked, most_walked, order_kept}
use Rattle.poly_atom.proofs.Small.{guards_small}
use Rattle.poly_atom.proofs.change.guards.Goals as goal

pub missing-requires-clause-others_up : goal.missing-requires-clause-others_up
missing-requires-clause-others_up c =
    rw c.live-2.ensures.value (order_kept c.args.before.now c.args.after.now c.requires c.args.before.now.live c.live-2.ensures.well.named c.live-2.ensures.well.live_up)

pub missing-requires-2-clause-numbers_up : goal.missing-requires-2-clause-numbers_up
missing-requires-2-clause-numbers_up c =
    rw c.pins.ensures.value (order_kept c.args.before.now c.args.after.now c.requires c.args.before.now.pins c.pins.ensures.well.pins_named c.pins.ensures.well.pins_up)

pub missing-requires-clause-numbers_up : goal.missing-requires-clause-numbers_up
missing-requires-clause-numbers_up c = ap (λ ns. in_order c.args.after.now ns) c.live.ensures.value ∙ c.live.ensures.well.live_up

pub missing-requires-2-clause-others_up : goal.missing-requires-2-clause-others_up
missing-requires-2-clause-others_up c = ap (λ ns. in_order c.args.after.now ns) c.pins-2.ensures.value ∙ c.pins-2.ensures.well.pins_up

pub with_fallen-requires-clause-old_up : goal.with_fallen-requires-clause-old_up
with_fallen-requires-clause-old_up c = ap items_ascend c.items.ensures.value ∙ c.live-2.ensures.well.items_up

pub with_fallen-requires-clause-new_up : goal.with_fallen-requires-clause-new_up
with_fallen-requires-clause-new_up c = ap items_ascend c.items-2.ensures.value ∙ c.live.ensures.well.items_up

pub with_risen-requires-clause-old_up : goal.with_risen-requires-clause-old_up
with_risen-requires-clause-old_up c = ap items_ascend c.items-3.ensures.value ∙ c.live-2.ensures.well.items_up

pub with_risen-requires-clause-new_up : goal.with_risen-requires-clause-new_up
with_risen-requires-clause-new_up c = ap items_ascend c.items-4.ensures.value ∙ c.live.ensures.well.items_up

answer_is : (c : goal.After-drop-fresh-2) → c.extend_from_slice.new.self.items ≡ guards c.args.before.now c.args.after.now
answer_is c =
    let before = c.args.before.now in
    let after = c.args.after.now in
    joined_four
    (c.in_ok-atoms.ensures ∙ ap (λ ps. map (λ p. Lacks p) ps) (c.deref.ensures.value ∙ c.in_ok-fresh.ensures ∙ (λ i. filter (λ p. not (mem (c.live-2.ensures.value i) p)) (c.live.ensures.value i))))
    c.in_ok-atoms-2.ensures
    ((λ i. map (λ b. AtLeast b.item b.least) (filter (λ b. nat_lt (bound_in (c.items-2.ensures.value i) b.item (λ d. d.least)) b.least) (c.items.ensures.value i))) ∙ least_walked before after c.live-2.ensures.well)
    c.in_ok-atoms-3.ensures
    ((λ i. map (λ b. AtMost b.item b.most) (filter (λ b. nat_lt b.most (bound_in (c.items-4.ensures.value i) b.item (λ d. d.most))) (c.items-3.ensures.value i))) ∙ most_walked before after c.live-2.ensures.well)
    c.in_ok-extend_from_slice.ensures.items
    (c.deref-3.ensures.value ∙ c.in_ok-asked.ensures ∙ ap (λ ps. map (λ p. Has p) ps) (c.deref-2.ensures.value ∙ c.in_ok-freed.ensures ∙ (λ i. filter (λ p. not (mem (c.pins-2.ensures.value i) p)) (c.pins.ensures.value i))))

pub returns-clause-ok : goal.returns-clause-ok
returns-clause-ok c = answer_is c

pub returns-clause-small : goal.returns-clause-small
returns-clause-small c = subst AllSmall (sym (answer_is c)) (guards_small c.args.before.now c.args.after.now c.live-2.ensures.well)
