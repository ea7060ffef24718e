use Rattle.std.proofs.Common.{false, nat_lt, rules, true, ◌∙◌, ◌≡◌}
use Rattle.std.proofs.lemmas.Fn.{always_returns_same}
use Rattle.std.proofs.lemmas.List.Sorted.{IsPartitionedBy-ltb}
use Rattle.std.specs.List.Sorted.{IsPartitionPoint}
use Rattle.poly_tasks.specs.declared.task.Pending.{Pending}
use Rattle.poly_tasks.proofs.Halving.{index_here, index_none}
use Rattle.poly_book.proofs.hand_in.index_of.Goals as goal

pub returns-then-index-tasks : goal.returns-then-index-tasks
returns-then-index-tasks c =
    let ps = c.args.tasks.now in
    let k = c.args.number in
    let x = c.index-tasks-index.result in
    let parts : IsPartitionPoint (λ (p : Pending). nat_lt p.number k ≡ true) (λ (p : Pending). nat_lt p.number k ≡ false) ps c.partition_point-index.result =
    c.partition_point-index.ensures.partitioned (λ (p : Pending). nat_lt p.number k) (always_returns_same _ _ _ (λ a r f h. (search rules, search rules))) (IsPartitionedBy-ltb (λ (p : Pending). p.number) ps k c.requires) in
    c.some_if.ensures ∙ index_here k ps c.partition_point-index.result x _ c.requires parts.0 parts.1 (search rules) (search rules)

pub returns : goal.returns
returns c =
    let ps = c.args.tasks.now in
    let k = c.args.number in
    let parts : IsPartitionPoint (λ (p : Pending). nat_lt p.number k ≡ true) (λ (p : Pending). nat_lt p.number k ≡ false) ps c.partition_point-index.result =
    c.partition_point-index.ensures.partitioned (λ (p : Pending). nat_lt p.number k) (always_returns_same _ _ _ (λ a r f h. (search rules, search rules))) (IsPartitionedBy-ltb (λ (p : Pending). p.number) ps k c.requires) in
    index_none k ps c.partition_point-index.result parts.0 (search rules)
