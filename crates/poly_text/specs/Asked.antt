-- What `browse` asks of a tiling.
use Rattle.std.specs.Prelude.{List}
use Rattle.poly_design.specs.declared.placement.Placement.{Placement}
use Rattle.poly_tiling.specs.declared.item.Item.{Item}

-- the placements that the tiling must have, those that it must lack, and the items that it must cover, each list in the order
-- of the words
pub record Asked : Type 0 where
  pub has : List Placement
  pub lacks : List Placement
  pub covers : List Item
