-- What holds of every design.
use Rattle.std.specs.Prelude.{◌≡◌, ◌≢◌, ℕ, ◌<◌, ◌≤◌, List, length}
use Rattle.std.specs.List.{All, Contains}
use Rattle.std.specs.Map.{keys_of}
use Rattle.poly_grid.specs.declared.cell.TheConstants.{SIDE}
use Rattle.poly_grid.specs.declared.grid.Grid.{Grid}
use Rattle.poly_grid.specs.Spot.{Spot}
use Rattle.poly_shape.specs.Order.{IsAscending, spot_cmp}
use Rattle.poly_design.specs.Name.{name_cmp}
use Rattle.poly_design.specs.declared.design.TheConstants.{MAX_CELLS, MAX_PIECES}
use Rattle.poly_design.specs.declared.mode.Mode.{Mode}
use Rattle.poly_design.specs.declared.mode.Mode.TheVariants.{Blocked}
use Rattle.poly_design.specs.declared.spec.Spec.{Spec}
use Rattle.poly_design.specs.Layout.{Layout}
use Rattle.poly_design.specs.Listed.{IsCount}
use Rattle.poly_design.specs.PlacementOrder.{placement_cmp}
use Rattle.poly_design.specs.Placements.{FewPlacements, IsPlacement}

-- the cell is one that a board can have
abbrev pub IsInRange : Spot → Type 0
IsInRange c = (c.x < SIDE) × (c.y < SIDE)

-- no entry says that its cell is blocked
abbrev pub NoneBlocked : List (Spot × Mode) → Type 0
NoneBlocked cells = (c : Spot) (m : Mode) → Contains cells (c, m) → m ≢ Blocked

-- each shape is a shape of the grid
abbrev pub AreOfGrid : Grid → List (List ℕ × Spec) → Type 0
AreOfGrid grid pieces = (name : List ℕ) (spec : Spec) → Contains pieces (name, spec) → spec.shape.grid ≡ grid

pub record IsDesign (d : Layout) : Type 0 where
  pub cells_ascend : IsAscending spot_cmp (keys_of d.cells)
  pub few_cells : length d.cells ≤ MAX_CELLS
  pub unblocked : NoneBlocked d.cells
  pub pieces_ascend : IsAscending name_cmp (keys_of d.pieces)
  pub few_pieces : length d.pieces ≤ MAX_PIECES
  pub of_grid : AreOfGrid d.grid d.pieces
  pub few_placements : FewPlacements d

-- a design on cells that a board can have, and the number of its placements
pub record IsCounted (d : Layout) (count : ℕ) : Type 0 where
  pub design : IsDesign d
  pub in_range : All IsInRange (keys_of d.cells)
  pub counted : IsCount placement_cmp (IsPlacement d) count
