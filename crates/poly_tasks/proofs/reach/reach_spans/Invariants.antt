use Rattle.std.proofs.Common.{take}
use Rattle.std.specs.List.{list_any}
use Rattle.poly_tasks.specs.Mapped.{in_span}
use Rattle.poly_tasks.specs.Reaching.{IsFarther, IsReached}
use Rattle.poly_tasks.proofs.reach.reach_spans.Given as goal

abbrev pub invariant-loop-span : goal.invariant-loop-span
invariant-loop-span l = record {
  farther : IsFarther l.fn.reach.items l.reach.items;
  reached : IsReached l.reach.items l.tasks (λ n. list_any (λ s. in_span s n) (take l.span-index l.spans));
}
