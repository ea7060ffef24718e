-- A design as its lists.
use Rattle.std.specs.Prelude.{◌≡◌, ◌≤◌, ◌&&◌, Bool, true, List, length, nat_le}
use Rattle.std.specs.List.{list_all}
use Rattle.poly_design.specs.Layout.{Layout}
use Rattle.poly_design.specs.Limits.{IsDesign}
use Rattle.poly_design.specs.Listed.{IsListOf}
use Rattle.poly_design.specs.PlacementOrder.{placement_cmp}
use Rattle.poly_design.specs.Placements.{IsPlacement}
use Rattle.poly_design.specs.declared.listing.TheConstants.{MAX_PLACEMENTS}
use Rattle.poly_design.specs.declared.design.TheConstants.{MAX_PIECES}
use Rattle.poly_design.specs.declared.placement.Placement.{Placement}
use Rattle.poly_tiling.specs.declared.bound.Bound.{Bound}
use Rattle.poly_tiling.specs.Shows.{item_bounds}
use Rattle.poly_tiling.specs.Tilings.{IsPin}

-- in each bound, the least is at most the most, and the most is at most 16
abbrev pub are_small : List Bound → Bool
are_small bounds = list_all (λ b. nat_le b.least b.most && nat_le b.most 16) bounds

-- the design's placements and pins, both in placement order, and its items with their bounds
pub record ArePartsOf (d : Layout) (list pinned : List Placement) (items : List Bound) : Type 0 where
  pub design : IsDesign d
  pub places : IsListOf placement_cmp (IsPlacement d) list
  pub pins : IsListOf placement_cmp (IsPin d) pinned
  pub bounds : items ≡ item_bounds d
  pub small : are_small items ≡ true
  pub few : length list ≤ MAX_PLACEMENTS
  pub few_pins : length pinned ≤ MAX_PIECES
