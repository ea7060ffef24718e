use Rattle.std.proofs.lemmas.Grind.{common_steps}
use Rattle.std.proofs.Common.{◌≡◌, Err, List, ap, arith, subst, sym}
use Rattle.poly_design.specs.declared.placement.Placement.{Placement}
use Rattle.poly_grid.specs.declared.refusal.Refusal.TheVariants.{Spent}
use Rattle.poly_place.proofs.Numbers.{IsPartWay, all_given, begins, goes_on, too_many}
use Rattle.poly_place.proofs.interner.Interner.give_all.Goals as goal

pub returns-in-Err-clause-spent : goal.returns-in-Err-clause-spent
returns-in-Err-clause-spent c = λ e.
    let is : c.in-Err.refusal ≡ Spent = cc in
    let full = c.in-Err.ensures.spent (ap (λ r. Err r) is) in
    too_many c.args.self.now c.args.placements.now c.loop-placement.self c.loop-placement.placement-index c.loop-placement.numbers.items c.placement-item.result
    c.loop-placement.invariant.numbered c.loop-placement.invariant.way c.loop-placement-test.true c.placement-item.is full.0 full.1

pub loop-placement-preserved : goal.loop-placement-preserved
loop-placement-preserved c = record {
  way = goes_on c.args.self.now c.args.placements.now c.loop-placement.self c.loop-placement.placement-index c.loop-placement.numbers.items c.placement-item.result c.give.new.self c.in-Ok.number c.push_reserved.new.self.items
      c.loop-placement.invariant.way c.loop-placement-test.true c.placement-item.is c.in-Ok.ensures.gives c.in-Ok.ensures.ok c.push_reserved.ensures.items;
  numbered = c.in-Ok.ensures.numbered;
  count = omega (arith, c.push_reserved.ensures.len, c.loop-placement.invariant.count);
  room = omega (arith, c.push_reserved.ensures.capacity, c.loop-placement.invariant.room);
}

pub returns-clause-gives : goal.returns-clause-gives
returns-clause-gives c = (all_given c.args.self.now c.args.placements.now c.loop-placement.self c.loop-placement.placement-index c.loop-placement.numbers.items c.loop-placement.invariant.way c.loop-placement-test.false).1

pub returns-in-Err-clause-err : goal.returns-in-Err-clause-err
returns-in-Err-clause-err c = grind (arith, common_steps)

pub loop-placement-init : goal.loop-placement-init
loop-placement-init c = record {
  way = subst (λ (l : List Placement). IsPartWay c.args.self.now c.args.placements.now l 0 c.in_ok-numbers.numbers.items) (sym c.reserve.ensures.same) (begins c.args.self.now c.args.placements.now c.in_ok-numbers.numbers.items c.in_ok-numbers.ensures.items);
  numbered = c.len-before.ensures.numbered;
  count = omega (arith, c.in_ok-numbers.ensures.len);
  room = omega (arith, c.in_ok-numbers.ensures.capacity);
}

pub returns-clause-ok : goal.returns-clause-ok
returns-clause-ok c = (all_given c.args.self.now c.args.placements.now c.loop-placement.self c.loop-placement.placement-index c.loop-placement.numbers.items c.loop-placement.invariant.way c.loop-placement-test.false).0

pub returns-clause-numbered : goal.returns-clause-numbered
returns-clause-numbered c = c.loop-placement.invariant.numbered
