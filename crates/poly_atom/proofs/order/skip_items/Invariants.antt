use Rattle.std.proofs.Common.{drop, ◌≡◌}
use Rattle.std.specs.Ordering.{is_lt}
use Rattle.poly_tiling.specs.Names.{item_cmp}
use Rattle.poly_atom.specs.Merge.{behind}
use Rattle.poly_atom.proofs.order.skip_items.Given as goal

abbrev pub invariant-loop-at : goal.invariant-loop-at
invariant-loop-at l = behind (λ b. is_lt (item_cmp b.item l.item)) (drop l.from l.bounds) ≡ behind (λ b. is_lt (item_cmp b.item l.item)) (drop l.at l.bounds)
