use Rattle.std.proofs.Common.{ap, arith, subst, sym, ◌∙◌}
use Rattle.std.proofs.lemmas.Bool.{eqb-true}
use Rattle.std.specs.List.{list_any}
use Rattle.poly_tiling.specs.Puzzle.{same_item}
use Rattle.poly_tiling.specs.declared.item.Item.TheVariants.{Piece}
use Rattle.poly_tasks.specs.Mapped.{placed, spanned}
use Rattle.poly_tasks.specs.Reaching.{IsReached}
use Rattle.poly_tasks.proofs.Lacking.{empty}
use Rattle.poly_tasks.proofs.ReachedTasks.{all_kinds}
use Rattle.poly_tasks.proofs.reach.reached.Goals as goal

pub returns-clause-ok : goal.returns-clause-ok
returns-clause-ok c =
    let t = c.args.touch.now in
    let m = c.args.maps.now in
    let ps = c.args.tasks.now in
    let r1 = c.reach_has.new.reach.items in
    let r3 = c.reach_names.new.reach.items in
    let r4 = c.reach_key.new.reach.items in
    let r5 = c.reach_items.new.reach.items in
    all_kinds t m ps r1 r3 r4 r5 c.reach_names.ensures.farther c.reach_key.ensures.farther c.reach_items.ensures.farther
    (λ p h. subst (λ rows. IsReached r1 ps (λ n. placed rows p n)) c.deref.ensures.value (c.reach_has.ensures.reached p h))
    (empty t.delta.now.pinned.items (omega (arith, eqb-true _ _ (sym c.is_empty.ensures ∙ c.if-not-is_empty.false), t.delta.now.pinned.ok.0)))
    (λ i h. c.reach_names.ensures.reached i (ap (λ l. list_any (λ x. same_item (Piece x) i) l) c.deref-2.ensures.value ∙ h))
    (subst (λ k. IsReached r4 ps (λ n. spanned m.at_least.entries k n)) c.key_of.ensures c.reach_key.ensures.reached)
    (λ i h. c.reach_items.ensures.reached i (ap (λ l. list_any (λ x. same_item x i) l) c.deref-3.ensures.value ∙ h))

pub reach_has-requires-clause-rise : goal.reach_has-requires-clause-rise
reach_has-requires-clause-rise c = c.requires.rise

pub reach_has-requires-clause-len : goal.reach_has-requires-clause-len
reach_has-requires-clause-len c = omega (arith, c.in_ok-reach.ensures.len, c.in_ok-reach.reach.ok.0)

pub reach_names-requires-clause-rise : goal.reach_names-requires-clause-rise
reach_names-requires-clause-rise c = c.requires.rise

pub reach_names-requires-clause-len : goal.reach_names-requires-clause-len
reach_names-requires-clause-len c = omega (arith, c.in_ok-reach.ensures.len, c.in_ok-reach.reach.ok.0, c.reach_has.ensures.farther.len)

pub reach_key-requires-clause-rise : goal.reach_key-requires-clause-rise
reach_key-requires-clause-rise c = c.requires.rise

pub reach_key-requires-clause-len : goal.reach_key-requires-clause-len
reach_key-requires-clause-len c = omega (arith, c.in_ok-reach.ensures.len, c.in_ok-reach.reach.ok.0, c.reach_has.ensures.farther.len, c.reach_names.ensures.farther.len)

pub reach_items-requires-clause-rise : goal.reach_items-requires-clause-rise
reach_items-requires-clause-rise c = c.requires.rise

pub reach_items-requires-clause-len : goal.reach_items-requires-clause-len
reach_items-requires-clause-len c = omega (arith, c.in_ok-reach.ensures.len, c.in_ok-reach.reach.ok.0, c.reach_has.ensures.farther.len, c.reach_names.ensures.farther.len, c.reach_key.ensures.farther.len)

pub returns-clause-len : goal.returns-clause-len
returns-clause-len c = omega (arith, c.in_ok-reach.ensures.len, c.in_ok-reach.reach.ok.0, c.reach_has.ensures.farther.len, c.reach_names.ensures.farther.len, c.reach_key.ensures.farther.len, c.reach_items.ensures.farther.len)
