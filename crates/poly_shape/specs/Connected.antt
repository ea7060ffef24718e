-- Neighbours, and sets of cells that are connected.
use Rattle.std.specs.Prelude.{◌≡◌, ◌+◌, ◌≤◌, Bool, true, List}
use Rattle.std.specs.List.{Contains}
use Rattle.poly_grid.specs.declared.grid.Grid.{Grid}
use Rattle.poly_grid.specs.Spot.{Spot}
use Rattle.poly_grid.specs.Grid as grid
use Rattle.poly_shape.specs.Shape.{point_of}

-- some step of the grid leads from a to b
abbrev pub AreNeighbours : Grid → Spot → Spot → Type 0
AreNeighbours g a b = grid.AreNeighbours g (point_of a) (point_of b)

-- if one of the cells passes, each of its neighbours among the cells passes too
abbrev pub IsClosed : Grid → List Spot → (Spot → Bool) → Type 0
IsClosed g cells p = (a b : Spot) → Contains cells a → Contains cells b → AreNeighbours g a b → p a ≡ true → p b ≡ true

-- if one of the cells passes a test that is closed under neighbours, all of them pass it
abbrev pub IsConnected : Grid → List Spot → Type 0
IsConnected g cells = (p : Spot → Bool) → IsClosed g cells p → (a b : Spot) → Contains cells a → Contains cells b → p a ≡ true → p b ≡ true

-- no two cells are more than 30 columns or rows apart
abbrev pub IsCompact : List Spot → Type 0
IsCompact cells = (a b : Spot) → Contains cells a → Contains cells b → (a.x ≤ b.x + 30) × (a.y ≤ b.y + 30)

-- some cell of the list has c as its neighbour
abbrev pub Touches : Grid → List Spot → Spot → Type 0
Touches g cells c = (b : Spot) × Contains cells b × AreNeighbours g b c
