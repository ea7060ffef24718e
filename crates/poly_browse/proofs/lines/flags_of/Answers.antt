use Rattle.std.proofs.Common.{ap, eqb, false, get_or, ◌||◌, ◌∙◌}
use Rattle.std.proofs.lemmas.List.{take_all}
use Rattle.poly_tiling.specs.Lists.{mem}
use Rattle.poly_browse.proofs.Rows.{mem_more}
use Rattle.poly_browse.proofs.lines.flags_of.Goals as goal

pub loop-number-init : goal.loop-number-init
loop-number-init c = λ k. ap (λ l. get_or l k false) c.new-flags.ensures.items

pub loop-number-preserved : goal.loop-number-preserved
loop-number-preserved c = λ k.
    c.in_ok-raise_one.ensures.ok k ∙ ap (λ b. b || eqb (get_or c.args.numbers.now c.loop-number.number-index 0) k) (c.loop-number.invariant k)
    ∙ mem_more false c.args.numbers.now c.loop-number.number-index k c.loop-number-test.true

pub returns-clause-ok : goal.returns-clause-ok
returns-clause-ok c = λ k. c.loop-number.invariant k ∙ ap (λ l. mem l k) (take_all c.loop-number.number-index c.args.numbers.now c.loop-number-test.false)
