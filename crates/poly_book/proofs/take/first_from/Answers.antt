use Rattle.std.proofs.Common.{false, nat_lt, rules, sym, true, ◌≡◌}
use Rattle.std.proofs.lemmas.Fn.{always_returns_same}
use Rattle.std.proofs.lemmas.List.Sorted.{IsPartitionedBy-ltb}
use Rattle.std.specs.List.Sorted.{IsPartitionPoint}
use Rattle.poly_tasks.specs.declared.task.Pending.{Pending}
use Rattle.poly_tasks.proofs.Halving.{first_here, first_none}
use Rattle.poly_book.proofs.take.first_from.Goals as goal

pub returns-then-index-tasks : goal.returns-then-index-tasks
returns-then-index-tasks c =
    let ps = c.args.tasks.now in
    let m = c.args.from in
    let x = c.index-tasks-index.result in
    let parts : IsPartitionPoint (λ (p : Pending). nat_lt p.number m ≡ true) (λ (p : Pending). nat_lt p.number m ≡ false) ps c.partition_point-index.result =
    c.partition_point-index.ensures.partitioned (λ (p : Pending). nat_lt p.number m) (always_returns_same _ _ _ (λ a r f h. (search rules, search rules))) (IsPartitionedBy-ltb (λ (p : Pending). p.number) ps m c.requires) in
    sym (first_here m ps c.partition_point-index.result x parts.0 parts.1 (search rules))

pub returns : goal.returns
returns c =
    let ps = c.args.tasks.now in
    let m = c.args.from in
    let parts : IsPartitionPoint (λ (p : Pending). nat_lt p.number m ≡ true) (λ (p : Pending). nat_lt p.number m ≡ false) ps c.partition_point-index.result =
    c.partition_point-index.ensures.partitioned (λ (p : Pending). nat_lt p.number m) (always_returns_same _ _ _ (λ a r f h. (search rules, search rules))) (IsPartitionedBy-ltb (λ (p : Pending). p.number) ps m c.requires) in
    sym (first_none m ps c.partition_point-index.result parts.0 (search rules))
