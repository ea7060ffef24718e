-- Tilings that fit a reply line.
use Rattle.std.specs.Prelude.{◌≡◌, ◌≢◌, ℕ, ◌≤◌, true, List}
use Rattle.std.specs.List.{AllPairs}
use Rattle.poly_shape.specs.Order.{IsAscending}
use Rattle.poly_design.specs.PlacementOrder.{placement_cmp}
use Rattle.poly_tiling.specs.Puzzle.{View, is_tiling}
use Rattle.poly_tiling.specs.Shows.{names}
use Rattle.poly_tiling.specs.TilingOrder.{placed}
use Rattle.poly_text.specs.Replies.{covered}
use Rattle.poly_design.specs.declared.design.TheConstants.{MAX_CELLS}

-- the numbers are a tiling of the view, no two of their placements are the same, and the placements in order ascend and fit a
-- reply line
pub record IsPrintable (v : View) (T : List ℕ) : Type 0 where
  pub tiling : is_tiling v T ≡ true
  pub differ : AllPairs (λ p q. p ≢ q) (names v T)
  pub ascends : IsAscending placement_cmp (placed v T)
  pub short : covered (names v T) ≤ MAX_CELLS
