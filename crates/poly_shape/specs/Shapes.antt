-- What holds of every shape, and of every orientation of one.
use Rattle.std.specs.Prelude.{◌≡◌, List, length}
use Rattle.poly_grid.specs.Spot.{Spot}
use Rattle.poly_shape.specs.Cells.{IsCells}
use Rattle.poly_shape.specs.Figure.{Figure}
use Rattle.poly_shape.specs.Shape.{IsNormal}
use Rattle.poly_shape.specs.Connected.{IsConnected}

-- 1 to 16 distinct cells in cell order, at their normal position, connected on the grid
pub record IsShape (s : Figure) : Type 0 where
  pub cells : IsCells s.cells
  pub normal : IsNormal s.cells
  pub connected : IsConnected s.grid s.cells

-- the image is a shape on the grid of s, and has as many cells as s
pub record IsOrientation (s : Figure) (image : List Spot) : Type 0 where
  pub shape : IsShape (record { grid = s.grid; cells = image })
  pub full : length image ≡ length s.cells
