use Rattle.std.proofs.Common.{ap, arith, false, get_or, length, refl, ◌∙◌}
use Rattle.std.proofs.lemmas.List.{get_or-replicate, length-replicate, length-set, take_all}
use Rattle.poly_tiling.specs.Lists.{mem}
use Rattle.poly_catalogue.proofs.Passing.{numbers_step}
use Rattle.poly_catalogue.proofs.flags.flag_numbers.Goals as goal

pub loop-number-init : goal.loop-number-init
loop-number-init c =
    let n = length c.args.flags.now.items in
    record {
      long = refl;
      exact = λ p l. ap (λ z. get_or z p false) c.clear.ensures ∙ get_or-replicate n p false false (omega (arith, ap length c.clear.ensures, length-replicate n false, l));
    }

pub loop-number-preserved : goal.loop-number-preserved
loop-number-preserved c = record {
  long = ap length c.flag.ensures ∙ length-set c.loop-number.flags.items _ _ ∙ c.loop-number.invariant.long;
  exact = numbers_step c.args.numbers.now c.loop-number.number-index c.loop-number.flags.items c.flag.new.flags.items c.loop-number-test.true c.loop-number.invariant.exact c.flag.ensures;
}

pub returns-clause-long : goal.returns-clause-long
returns-clause-long c = c.loop-number.invariant.long ∙ ap length c.clear.ensures ∙ length-replicate (length c.args.flags.now.items) false

pub returns-clause-flags : goal.returns-clause-flags
returns-clause-flags c = λ p l. c.loop-number.invariant.exact p l ∙ ap (λ z. mem z p) (take_all c.loop-number.number-index c.args.numbers.now c.loop-number-test.false)
