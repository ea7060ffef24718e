-- The rows of a board: which texts are a board, and its cells.
use Rattle.std.specs.Prelude.{ℕ, suc, ◌+◌, ◌*◌, ◌<◌, ◌&&◌, ◌||◌, ◌==◌, Bool, List, [], ◌∷◌, ◌++◌, length, nat_le, if◌then◌else◌, Option, Some, None, is_some}
use Rattle.std.specs.List.{list_all}
use Rattle.poly_grid.specs.Spot.{Spot}
use Rattle.poly_grid.specs.declared.cell.TheConstants.{SIDE}
use Rattle.poly_design.specs.declared.mode.Mode.{Mode}
use Rattle.poly_design.specs.declared.mode.Mode.TheVariants.{Required, Optional}

-- the mode that a character gives its cell, or none if the cell is blocked
abbrev pub open_mode : ℕ → Option Mode
open_mode byte = if byte == 35 then Some Required else (if byte == 43 then Some Optional else None)

abbrev pub is_open : ℕ → Bool
is_open byte = is_some (open_mode byte)

-- a hash, a plus or a full stop
abbrev pub is_mark : ℕ → Bool
is_mark byte = is_open byte || byte == 46

abbrev pub is_row : List ℕ → Bool
is_row row = nat_le (length row) SIDE && list_all is_mark row

-- at most 64 rows, each of at most 64 marks
abbrev pub is_board : List (List ℕ) → Bool
is_board rows = nat_le (length rows) SIDE && list_all is_row rows

abbrev pub with_mode : Spot → Option Mode → List (Spot × Mode)
with_mode c None = []
with_mode c (Some mode) = (c, mode) ∷ []

-- the cells of row y that are not blocked; the first of the bytes is at column x
abbrev pub row_cells : ℕ → ℕ → List ℕ → List (Spot × Mode)
row_cells x y [] = []
row_cells x y (byte ∷ row) = with_mode (record { x = x; y = y }) (open_mode byte) ++ row_cells (suc x) y row

-- the cells of the rows that are not blocked, in reading order; the first of the rows is row y
abbrev pub cells_from : ℕ → List (List ℕ) → List (Spot × Mode)
cells_from y [] = []
cells_from y (row ∷ rows) = row_cells 0 y row ++ cells_from (suc y) rows

-- the cells of a board that are not blocked, in reading order
abbrev pub board_cells : List (List ℕ) → List (Spot × Mode)
board_cells rows = cells_from 0 rows

-- each cell has a column from 0 to 63, and its number is below `place`, if cells are numbered row by row, 64 to a row
abbrev pub AreBefore : ℕ → List (Spot × Mode) → Type 0
AreBefore place [] = Unit {0}
AreBefore place (e ∷ es) = (SIDE * e.0.y + e.0.x < place) × (e.0.x < SIDE) × AreBefore place es
