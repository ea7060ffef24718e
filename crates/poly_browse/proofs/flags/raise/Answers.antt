use Rattle.std.proofs.Common.{ap, arith, eqb, false, get_or, refl, sym, ◌||◌, ◌∙◌}
use Rattle.std.proofs.lemmas.List.{take_all}
use Rattle.poly_tiling.specs.Lists.{mem}
use Rattle.poly_browse.proofs.Rows.{mem_more, or_false}
use Rattle.poly_browse.proofs.flags.raise.Goals as goal

pub loop-number-init : goal.loop-number-init
loop-number-init c = record { raised = λ k l. sym (or_false (get_or c.args.flags.now.items k false)); long = refl }

pub loop-number-preserved : goal.loop-number-preserved
loop-number-preserved c =
    let n = get_or c.args.numbers.now c.loop-number.number-index 0 in
    record {
      raised = λ k l. c.raise_if_there.ensures.raised k (let e = c.loop-number.invariant.long in omega (arith, e, l)) ∙ ap (λ b. b || eqb n k) (c.loop-number.invariant.raised k l)
          ∙ mem_more (get_or c.args.flags.now.items k false) c.args.numbers.now c.loop-number.number-index k c.loop-number-test.true;
      long = c.raise_if_there.ensures.long ∙ c.loop-number.invariant.long;
    }

pub returns-clause-raised : goal.returns-clause-raised
returns-clause-raised c = λ k l. c.loop-number.invariant.raised k l ∙ ap (λ z. get_or c.args.flags.now.items k false || mem z k) (take_all c.loop-number.number-index c.args.numbers.now c.loop-number-test.false)
