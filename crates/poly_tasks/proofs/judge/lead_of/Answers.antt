use Rattle.std.proofs.Common.{ap, not, sym, ◌∙◌}
use Rattle.std.proofs.lemmas.Bool.{not_from_false}
use Rattle.poly_lists.specs.Words.{is_other}
use Rattle.poly_tasks.proofs.Mapping.{all_more}
use Rattle.poly_tasks.proofs.judge.lead_of.Goals as goal

pub loop-k-preserved : goal.loop-k-preserved
loop-k-preserved c =
    let g = c.args.guards.now in
    let k = c.loop-k.k in
    let d = c.index-guards-k.result in
    all_more (λ a. not (is_other a)) g k d c.loop-k-test.true c.loop-k.invariant
    (ap (λ a. not (is_other a)) (sym c.index-guards-k.is) ∙ not_from_false _ (sym c.is_other.ensures ∙ c.if-is_other.false))
