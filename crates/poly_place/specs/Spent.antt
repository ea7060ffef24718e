-- When numbers run out.
use Rattle.std.specs.Prelude.{◌<◌, ◌^◌, ◌≢◌, ◌⊎◌, List, length}
use Rattle.std.specs.List.{AllPairs, Contains}
use Rattle.poly_design.specs.Layout.{Layout}
use Rattle.poly_design.specs.Placements.{IsPlacement}
use Rattle.poly_design.specs.declared.placement.Placement.{Placement}
use Rattle.poly_tiling.specs.Tilings.{IsPin}

-- together, the placements that have numbers and the design's placements and pins are more than there are numbers
pub record IsSpent (given : List Placement) (d : Layout) : Type 0 where
  pub all : List Placement
  pub apart : AllPairs (λ x y. x ≢ y) all
  pub among : (p : Placement) → Contains all p → Contains given p ⊎ IsPlacement d p ⊎ IsPin d p
  pub many : 2 ^ 32 < length all
