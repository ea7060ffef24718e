use Rattle.std.proofs.Common.{ap, subst, ◌∙◌, ◌≡◌}
use Rattle.std.specs.List.{filter_map}
use Rattle.std.specs.List.Sorted.{IsPermutation}
use Rattle.poly_tiling.specs.TilingOrder.{position_at}
use Rattle.poly_tiling.proofs.Positions.{ranks_are}
use Rattle.poly_tiling.proofs.order.ranks_of.Goals as goal

pub returns-clause-ok : goal.returns-clause-ok
returns-clause-ok c =
    let table = c.args.positions.now in
    let is : c.in_ok-ranks.ranks.items ≡ filter_map (position_at table) c.args.tiling.now = c.in_ok-ranks.ensures.ok ∙ ap (λ l. filter_map (position_at table) l) c.numbers.ensures.value in
    ranks_are c.args.view.now.live c.args.tiling.now table c.sort_unstable.new.self.items c.dedup.new.self.items c.requires.positions
    (subst (λ l. IsPermutation l c.sort_unstable.new.self.items) is c.sort_unstable.ensures.permutation) c.sort_unstable.ensures.sorted c.dedup.ensures.filtered
