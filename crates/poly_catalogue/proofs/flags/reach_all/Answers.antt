use Rattle.std.proofs.Common.{ap, arith, length, refl, sym, ◌∙◌}
use Rattle.std.proofs.lemmas.List.{take_all}
use Rattle.std.specs.List.{list_all}
use Rattle.std.specs.Prelude.{nat_lt}
use Rattle.poly_catalogue.proofs.Flagged.{below_next}
use Rattle.poly_catalogue.proofs.flags.reach_all.Goals as goal

pub loop-number-init : goal.loop-number-init
loop-number-init c = record { low = refl; more = omega arith; few = c.requires.few }

pub loop-number-preserved : goal.loop-number-preserved
loop-number-preserved c = record {
  low = below_next c.args.numbers.now c.loop-number.number-index (length c.loop-number.flags.items) (length c.reach.new.flags.items) c.loop-number-test.true c.reach.ensures.more c.in_ok-reach.ensures.low c.loop-number.invariant.low;
  more = omega (arith, c.reach.ensures.more, c.loop-number.invariant.more);
  few = c.reach.ensures.few;
}

pub returns-clause-low : goal.returns-clause-low
returns-clause-low c = sym (ap (λ z. list_all (λ p. nat_lt p (length c.loop-number.flags.items)) z) (take_all c.loop-number.number-index c.args.numbers.now c.loop-number-test.false)) ∙ c.loop-number.invariant.low
