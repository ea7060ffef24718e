use Rattle.std.proofs.Common.{arith, false, nat_lt, rules, true, ◌≡◌}
use Rattle.std.proofs.lemmas.Fn.{always_returns_same}
use Rattle.std.proofs.lemmas.List.Sorted.{IsPartitionedBy-ltb}
use Rattle.std.specs.List.Sorted.{IsPartitionPoint}
use Rattle.poly_tasks.specs.declared.task.Pending.{Pending}
use Rattle.poly_tasks.proofs.ReachedTasks.{reached_span}
use Rattle.poly_tasks.proofs.reach.reach_span.Goals as goal

pub returns-clause-reached : goal.returns-clause-reached
returns-clause-reached c =
    let ps = c.args.tasks.now in
    let s = c.args.span.now in
    let m = c.partition_point-index.result in
    let parts : IsPartitionPoint (λ (p : Pending). nat_lt p.number s.from ≡ true) (λ (p : Pending). nat_lt p.number s.from ≡ false) ps m =
    c.partition_point-index.ensures.partitioned (λ (p : Pending). nat_lt p.number s.from) (always_returns_same _ _ _ (λ a r f h. (search rules, search rules))) (IsPartitionedBy-ltb (λ (p : Pending). p.number) ps s.from c.requires.rise) in
    reached_span c.raise.new.reach.items ps s m parts (λ l. c.raise.ensures.reached (omega (arith, l, c.requires.len)))
