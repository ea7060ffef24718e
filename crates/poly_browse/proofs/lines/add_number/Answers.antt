use Rattle.std.proofs.Common.{ap, subst, sym, true, ◌∙◌, ◌≡◌}
use Rattle.poly_tiling.specs.Lists.{distinct, mem}
use Rattle.poly_browse.proofs.Worded.{distinct_push, mem_again, mem_push}
use Rattle.poly_browse.proofs.lines.add_number.Goals as goal

pub returns-then-has_number-clause-ok : goal.returns-then-has_number-clause-ok
returns-then-has_number-clause-ok c = mem_again c.args.numbers.now.items c.args.number (ap (λ l. mem l c.args.number) (sym c.deref.ensures.value) ∙ sym c.has_number.ensures ∙ c.if-has_number.true)

pub returns-clause-ok : goal.returns-clause-ok
returns-clause-ok c = λ k. ap (λ l. mem l k) c.in_ok-push.ensures.items ∙ mem_push c.args.numbers.now.items c.args.number k

pub returns-clause-once : goal.returns-clause-once
returns-clause-once c = λ once. subst (λ l. distinct l ≡ true) (sym c.in_ok-push.ensures.items)
    (distinct_push c.args.numbers.now.items c.args.number once (ap (λ l. mem l c.args.number) (sym c.deref.ensures.value) ∙ sym c.has_number.ensures ∙ c.if-has_number.false))
