-- What a listing of a design's tilings is, by the design's own placements.
use Rattle.std.specs.Cmp.Lexicographic.{slice_cmp}
use Rattle.std.specs.List.{All, AllPairs}
use Rattle.std.specs.List.Sorted.{IsSorted}
use Rattle.std.specs.Prelude.{List, length, map, ℕ, ◌<◌, ◌≢◌}
use Rattle.poly_shape.specs.Order.{IsAscending}
use Rattle.poly_design.specs.Layout.{Layout}
use Rattle.poly_design.specs.Listed.{IsListOf}
use Rattle.poly_design.specs.PlacementOrder.{placement_cmp}
use Rattle.poly_design.specs.declared.placement.Placement.{Placement}
use Rattle.poly_tiling.specs.Lister.{HasEachOnce, HasOver}
use Rattle.poly_tiling.specs.Names.{WellNamed}
use Rattle.poly_tiling.specs.Puzzle.{View}
use Rattle.poly_tiling.specs.Shows.{Shows}
use Rattle.poly_tiling.specs.TilingOrder.{placed, tiling_cmp}
use Rattle.poly_tiling.specs.Tilings.{IsTiling}

-- a tiling of the design as its placements in placement order: each set of placements has one such list
abbrev pub IsTilingInOrder : Layout → List Placement → Type 0
IsTilingInOrder d T = IsTiling d T × IsAscending placement_cmp T

-- exactly the design's tilings, each once, in ascending order; each tiling is the list of its placements in placement order
abbrev pub IsListOfTilings : Layout → List (List Placement) → Type 0
IsListOfTilings d all = IsListOf (slice_cmp placement_cmp) (IsTilingInOrder d) all

-- there are more than n tilings: some list of tilings, none of them twice, is longer than n
pub record HasOverTilings (n : ℕ) (d : Layout) : Type 0 where
  pub list : List (List Placement)
  pub tilings : All (IsTilingInOrder d) list
  pub apart : AllPairs (λ S T. S ≢ T) list
  pub long : n < length list

-- If a view shows a design, then the view's tilings, each once and in order, are exactly the design's tilings, each once
-- and in order, as lists of their placements in placement order.
abbrev pub ListingsShow : Type 0
ListingsShow = (v : View) (d : Layout) (lists : List (List ℕ)) → WellNamed v → Shows v d → HasEachOnce v lists → IsSorted (tiling_cmp v) lists → IsListOfTilings d (map (placed v) lists)

-- If a view shows a design and has over n tilings, the design has over n tilings too.
abbrev pub OverShow : Type 0
OverShow = (n : ℕ) (v : View) (d : Layout) → WellNamed v → Shows v d → HasOver n v → HasOverTilings n d
