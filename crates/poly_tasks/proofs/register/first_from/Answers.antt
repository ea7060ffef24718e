use Rattle.std.proofs.Common.{nat_lt, rules}
use Rattle.std.proofs.lemmas.Fn.{always_returns_same}
use Rattle.std.proofs.lemmas.List.Sorted.{IsPartitionedBy-ltb}
use Rattle.poly_tasks.specs.declared.task.Pending.{Pending}
use Rattle.poly_tasks.proofs.register.first_from.Goals as goal

pub returns-clause-parts : goal.returns-clause-parts
returns-clause-parts c =
    c.partition_point.ensures.partitioned (λ (p : Pending). nat_lt p.number c.args.below) (always_returns_same _ _ _ (λ a r f h. (search rules, search rules))) (IsPartitionedBy-ltb (λ (p : Pending). p.number) c.args.pending.now c.args.below c.requires)
