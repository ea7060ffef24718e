use Rattle.std.proofs.Common.{rules, slice_get}
use Rattle.std.proofs.lemmas.List.MinMax.{ranks_by}
use Rattle.std.proofs.lemmas.Fn.{always_returns_same}
use Rattle.std.specs.Cmp.Lexicographic.{options_total}
use Rattle.poly_design.specs.PlacementOrder.{placement_total}
use Rattle.poly_place.specs.Touched.{comes_before}
use Rattle.poly_place.proofs.Merging.{parted}
use Rattle.poly_place.proofs.update.count_before.Goals as goal

pub returns-clause-split : goal.returns-clause-split
returns-clause-split c =
    let all = c.args.names.now in
    let n = c.args.number in
    c.partition_point.ensures.partitioned (λ m. comes_before all m n) (always_returns_same _ _ _ (λ a r f h. (search rules, search rules)))
    (parted (comes_before all) (ranks_by (options_total placement_total) (λ m. slice_get all m)) c.args.numbers.now n c.requires)
