use Rattle.std.proofs.Common.{arith, eqb, get_or, length, sym, ◌+◌, ◌-◌, ◌/◌, ◌<◌}
use Rattle.std.proofs.lemmas.Bool.{ne_eqb}
use Rattle.std.proofs.lemmas.List.{get_or_default}
use Rattle.poly_tiling.specs.Names.{below}
use Rattle.poly_atom.proofs.Halves.{none_within, within_high, within_low}
use Rattle.poly_atom.proofs.Merge.{numbers_order, sorted_numbers}
use Rattle.poly_atom.proofs.order.stands_in.Goals as goal

pub loop-low-preserved : goal.loop-low-preserved
loop-low-preserved c =
    let middle = c.loop-low.low + (c.loop-low.high - c.loop-low.low) / 2 in
    let there : middle < length c.args.numbers.now = omega (arith, c.loop-low.invariant.inside, c.loop-low-test.true) in
    record {
      inside = omega arith;
      within = within_high (below c.args.view.now) (λ p q. eqb p q) (numbers_order c.args.view.now) c.args.numbers.now (sorted_numbers c.args.view.now c.args.numbers.now c.requires)
          c.args.number (get_or c.args.numbers.now middle 0) c.loop-low.low c.loop-low.high middle c.loop-low.invariant.within there
          (get_or_default c.args.numbers.now middle 0 c.args.number there) (ne_eqb _ _ c.if-here-number.false) (sym c.if-is_below.ensures);
    }

pub loop-low-preserved-then-is_below : goal.loop-low-preserved-then-is_below
loop-low-preserved-then-is_below c =
    let middle = c.loop-low.low + (c.loop-low.high - c.loop-low.low) / 2 in
    let there : middle < length c.args.numbers.now = omega (arith, c.loop-low.invariant.inside, c.loop-low-test.true) in
    record {
      inside = c.loop-low.invariant.inside;
      within = within_low (below c.args.view.now) (λ p q. eqb p q) (numbers_order c.args.view.now) c.args.numbers.now (sorted_numbers c.args.view.now c.args.numbers.now c.requires)
          c.args.number (get_or c.args.numbers.now middle 0) c.loop-low.low c.loop-low.high middle c.loop-low.invariant.within there
          (get_or_default c.args.numbers.now middle 0 c.args.number there) (sym c.if-is_below.ensures);
    }

pub returns : goal.returns
returns c = sym (none_within (λ p q. eqb p q) c.args.numbers.now c.args.number c.loop-low.low c.loop-low.high c.loop-low.invariant.within c.loop-low-test.false)
