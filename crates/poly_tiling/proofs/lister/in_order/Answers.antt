use Rattle.poly_tiling.proofs.Sorting.{sorted_ascend, sorted_same}
use Rattle.poly_tiling.proofs.lister.in_order.Goals as goal

pub returns-clause-ascends : goal.returns-clause-ascends
returns-clause-ascends c = sorted_ascend _ _ c.sort_unstable.ensures.sorted c.dedup.ensures.filtered

pub returns-clause-same : goal.returns-clause-same
returns-clause-same c = λ n. rw (← c.in_ok-list.ensures.items) (sorted_same _ _ _ c.sort_unstable.ensures.permutation c.dedup.ensures.filtered n)
