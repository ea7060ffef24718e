-- Where an orientation can lie.
use Rattle.std.specs.Prelude.{◌≡◌, ℕ, ◌+◌, ◌<◌, List}
use Rattle.std.specs.List.{Contains}
use Rattle.poly_grid.specs.Spot.{Spot}
use Rattle.poly_grid.specs.declared.cell.TheConstants.{SIDE}
use Rattle.poly_shape.specs.Moves.{spot_moved}
use Rattle.poly_design.specs.Placements.{IsMovedTo}

-- the cell, moved right and down, stays in the range and is then a cell of the board
pub record LandsOn (board : List Spot) (right down : ℕ) (c : Spot) : Type 0 where
  pub in_width : c.x + right < SIDE
  pub in_height : c.y + down < SIDE
  pub on : Contains board (spot_moved right down c)

-- moved right and down, the cell `from` lies on the cell `to`
pub record IsShift (right down : ℕ) (from to : Spot) : Type 0 where
  pub x : from.x + right ≡ to.x
  pub y : from.y + down ≡ to.y

-- the cells are the image, moved so that `from` lies on `to`, and the image can lie there
pub record IsShifted (IsFree : Spot → Type 0) (forbidden : List (List Spot)) (image : List Spot) (from to : Spot) (cells : List Spot) : Type 0 where
  pub right : ℕ
  pub down : ℕ
  pub shift : IsShift right down from to
  pub lies : IsMovedTo IsFree forbidden image right down cells

-- the cells are the image, moved to where it can lie
pub record IsSomewhere (IsFree : Spot → Type 0) (forbidden : List (List Spot)) (image cells : List Spot) : Type 0 where
  pub right : ℕ
  pub down : ℕ
  pub lies : IsMovedTo IsFree forbidden image right down cells
