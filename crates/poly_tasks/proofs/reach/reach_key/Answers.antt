use Rattle.std.proofs.Common.{[], ap, get_or, unwrap_or, ◌∙◌}
use Rattle.std.specs.List.{list_any}
use Rattle.poly_tasks.specs.Mapped.{in_span}
use Rattle.poly_tasks.proofs.ReachedTasks.{farther_self}
use Rattle.poly_tasks.proofs.reach.reach_key.Goals as goal

pub reach_spans-requires-clause-rise : goal.reach_spans-requires-clause-rise
reach_spans-requires-clause-rise c = c.requires.rise

pub reach_spans-requires-clause-len : goal.reach_spans-requires-clause-len
reach_spans-requires-clause-len c = c.requires.len

pub returns-in-Some-clause-farther : goal.returns-in-Some-clause-farther
returns-in-Some-clause-farther c = c.reach_spans.ensures.farther

pub returns-in-Some-clause-reached : goal.returns-in-Some-clause-reached
returns-in-Some-clause-reached c = λ i d l e.
    let row = c.spans.ensures ∙ ap (λ r. unwrap_or r []) c.in-Some.ensures.value in
    c.reach_spans.ensures.reached i d l (ap (λ ss. list_any (λ s. in_span s (get_or c.args.tasks.now i d).number) ss) row ∙ e)

pub returns-in_default-clause-farther : goal.returns-in_default-clause-farther
returns-in_default-clause-farther c = farther_self c.args.reach.now.items
