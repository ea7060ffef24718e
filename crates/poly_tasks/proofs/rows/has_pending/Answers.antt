use Rattle.std.proofs.Common.{false, nat_lt, rules, true, ◌≡◌}
use Rattle.std.proofs.lemmas.Fn.{always_returns_same}
use Rattle.std.proofs.lemmas.List.Sorted.{IsPartitionedBy-ltb}
use Rattle.std.specs.List.Sorted.{IsPartitionPoint}
use Rattle.poly_tasks.specs.declared.task.Pending.{Pending}
use Rattle.poly_tasks.proofs.Mapping.{has_here, has_none}
use Rattle.poly_tasks.proofs.rows.has_pending.Goals as goal

pub returns-then-index-pending : goal.returns-then-index-pending
returns-then-index-pending c =
    let ps = c.args.pending.now in
    let s = c.args.span.now in
    let x = c.index-pending-index.result in
    let parts : IsPartitionPoint (λ (p : Pending). nat_lt p.number s.from ≡ true) (λ (p : Pending). nat_lt p.number s.from ≡ false) ps c.partition_point-index.result =
    c.partition_point-index.ensures.partitioned (λ (p : Pending). nat_lt p.number s.from) (always_returns_same _ _ _ (λ a r f h. (search rules, search rules))) (IsPartitionedBy-ltb (λ (p : Pending). p.number) ps s.from c.requires) in
    has_here s ps c.partition_point-index.result x c.requires parts.0 parts.1 (search rules)

pub returns : goal.returns
returns c =
    let ps = c.args.pending.now in
    let s = c.args.span.now in
    let parts : IsPartitionPoint (λ (p : Pending). nat_lt p.number s.from ≡ true) (λ (p : Pending). nat_lt p.number s.from ≡ false) ps c.partition_point-index.result =
    c.partition_point-index.ensures.partitioned (λ (p : Pending). nat_lt p.number s.from) (always_returns_same _ _ _ (λ a r f h. (search rules, search rules))) (IsPartitionedBy-ltb (λ (p : Pending). p.number) ps s.from c.requires) in
    has_none s ps c.partition_point-index.result parts.0 (search rules)
