use Rattle.std.proofs.Common.{get_or, subst, sym, true, ◌∙◌, ◌≡◌}
use Rattle.std.proofs.lemmas.Bool.{true≢false}
use Rattle.std.proofs.lemmas.List.{take_all}
use Rattle.std.specs.List.{list_any}
use Rattle.poly_tasks.specs.Mapped.{in_span}
use Rattle.poly_tasks.specs.declared.rows.Span.{Span}
use Rattle.poly_tasks.proofs.ReachedTasks.{farther_on, farther_self, spans_more}
use Rattle.poly_tasks.proofs.reach.reach_spans.Goals as goal

abbrev zero_span : Span
zero_span = record { from = 0; to = 0 }

pub reach_span-requires-clause-len : goal.reach_span-requires-clause-len
reach_span-requires-clause-len c = c.loop-span.invariant.farther.len ∙ c.requires.len

pub loop-span-preserved : goal.loop-span-preserved
loop-span-preserved c =
    let r = c.loop-span.reach.items in
    let r2 = c.reach_span.new.reach.items in
    record {
      farther = farther_on _ r r2 c.loop-span.invariant.farther c.reach_span.ensures.farther;
      reached = spans_more r r2 c.args.tasks.now c.args.spans.now c.loop-span.span-index zero_span c.loop-span-test.true c.reach_span.ensures.farther c.loop-span.invariant.reached
          c.reach_span.ensures.reached;
    }

pub loop-span-init : goal.loop-span-init
loop-span-init c = record { farther = farther_self c.args.reach.now.items; reached = λ i d l none. absurd (true≢false (sym none)) }

pub reach_span-requires-clause-rise : goal.reach_span-requires-clause-rise
reach_span-requires-clause-rise c = c.requires.rise

pub returns-clause-farther : goal.returns-clause-farther
returns-clause-farther c = c.loop-span.invariant.farther

pub returns-clause-reached : goal.returns-clause-reached
returns-clause-reached c = λ i d l e.
    let all = sym (take_all c.loop-span.span-index c.args.spans.now c.loop-span-test.false) in
    c.loop-span.invariant.reached i d l (subst (λ ss. list_any (λ s. in_span s (get_or c.args.tasks.now i d).number) ss ≡ true) all e)
