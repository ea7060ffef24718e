use Rattle.std.proofs.Common.{◌≤◌, List, ap, arith, length, subst, sym}
use Rattle.poly_design.specs.Listed.{IsListOf}
use Rattle.poly_design.specs.PlacementOrder.{placement_cmp}
use Rattle.poly_design.specs.declared.placement.Placement.{Placement}
use Rattle.poly_tiling.specs.Tilings.{IsPin}
use Rattle.poly_place.proofs.Pinned.{few_pins, pins_all, pins_in, pins_listed, pins_more}
use Rattle.poly_place.proofs.parts.pins.Goals as goal

pub loop-name-init : goal.loop-name-init
loop-name-init c = rw (c.into_iter-name-iterator.ensures.into_iter_gives.0, c.new-pins.ensures.items) (ap pins_in c.pieces-name-items.ensures.value)

pub loop-name-preserved : goal.loop-name-preserved
loop-name-preserved c = pins_more c.loop-name.pins.items c.add_pin.new.pins.items c.loop-name.name-iterator c.next.new.self c.args.design.now.pieces (c.in-Some.name.now, c.in-Some.spec.now) c.loop-name.invariant c.in-Some.ensures.steps c.in_ok-add_pin.ensures.ok

pub returns-clause-ok : goal.returns-clause-ok
returns-clause-ok c =
    let all = pins_all c.loop-name.pins.items c.loop-name.name-iterator c.args.design.now.pieces c.loop-name.invariant c.in-None.ensures.steps.0 in
    subst (λ (l : List Placement). IsListOf placement_cmp (IsPin c.args.design.now) l) (sym all) (pins_listed c.args.design.now c.pieces-name-items.ensures.design.pieces_ascend)

pub returns-clause-few : goal.returns-clause-few
returns-clause-few c =
    let all = pins_all c.loop-name.pins.items c.loop-name.name-iterator c.args.design.now.pieces c.loop-name.invariant c.in-None.ensures.steps.0 in
    subst (λ (l : List Placement). length l ≤ 64) (sym all) (omega (arith, few_pins c.args.design.now.pieces, c.pieces-name-items.ensures.design.few_pieces))
