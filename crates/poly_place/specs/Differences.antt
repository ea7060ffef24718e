-- The differences between two designs that are given by numbers, list by list.
use Rattle.std.specs.Prelude.{◌≡◌, filter, map, nat_lt, not}
use Rattle.std.specs.List.{filter_map}
use Rattle.poly_tiling.specs.Lists.{mem}
use Rattle.poly_tiling.specs.Puzzle.{bound_in}
use Rattle.poly_place.specs.declared.delta.Delta.{Delta}
use Rattle.poly_place.specs.declared.numbered.Numbered.{Numbered}
use Rattle.poly_place.specs.Falls.{falls}

pub record AreDifferences (old new : Numbered) (x : Delta) : Type 0 where
  pub gone : x.gone.items ≡ filter (λ n. not (mem new.live.items n)) old.live.items
  pub fresh : x.fresh.items ≡ filter (λ n. not (mem old.live.items n)) new.live.items
  pub needed : x.needed.items ≡ map (λ b. b.item) (filter (λ b. nat_lt (bound_in old.bounds.items b.item (λ c. c.least)) b.least) new.bounds.items)
  pub unneeded : x.unneeded.items ≡ map (λ b. b.item) (filter (λ b. nat_lt (bound_in new.bounds.items b.item (λ c. c.least)) b.least) old.bounds.items)
  pub narrowed : x.narrowed.items ≡ filter_map (falls new.bounds.items) old.bounds.items
  pub widened : x.widened.items ≡ filter_map (falls old.bounds.items) new.bounds.items
  pub pinned : x.pinned.items ≡ filter (λ n. not (mem old.pins.items n)) new.pins.items
  pub unpinned : x.unpinned.items ≡ filter (λ n. not (mem new.pins.items n)) old.pins.items
