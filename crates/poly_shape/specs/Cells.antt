use Rattle.std.specs.Prelude.{◌≡◌, ◌-◌, ◌≤◌, List, ◌++◌, take, length, replicate}
use Rattle.poly_grid.specs.Spot.{Spot}
use Rattle.poly_shape.specs.declared.cells.Cells.TheInside.{Inside}
use Rattle.poly_shape.specs.Order.{IsAscending, spot_cmp}

-- the cells, and after them the cell 0,0, repeated until there are 16 cells
abbrev pub padded : List Spot → List Spot
padded l = l ++ replicate (16 - length l) (record { x = 0; y = 0 })

pub record IsCells (l : List Spot) : Type 0 where
  pub some : 1 ≤ length l
  pub few : length l ≤ 16
  pub ascending : IsAscending spot_cmp l

pub record IsWellKept (a : Inside) : Type 0 where
  pub full : length (take a.len a.cells) ≡ a.len
  pub padding : a.cells ≡ padded (take a.len a.cells)
  pub cells : IsCells (take a.len a.cells)

abbrev pub list_of : Inside → List Spot
list_of a = take a.len a.cells
