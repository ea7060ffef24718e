-- A flag for each cell of the range, row by row.
use Rattle.std.specs.Prelude.{◌≡◌, ◌↔◌, ◌+◌, ◌*◌, ◌<◌, Bool, true, false, List, length, slice_index_or}
use Rattle.std.specs.List.{Contains}
use Rattle.poly_grid.specs.Spot.{Spot}
use Rattle.poly_grid.specs.declared.cell.TheConstants.{SIDE}

abbrev pub flag_of : List Bool → Spot → Bool
flag_of flags c = slice_index_or flags (SIDE * c.y + c.x) false

-- a cell's flag is up exactly if the list has the cell
pub record AreFlagsOf (cells : List Spot) (flags : List Bool) : Type 0 where
  pub whole : length flags ≡ SIDE * SIDE
  pub in_range : (c : Spot) → Contains cells c → (c.x < SIDE) × (c.y < SIDE)
  pub exact : (c : Spot) → c.x < SIDE → c.y < SIDE → (flag_of flags c ≡ true) ↔ Contains cells c
