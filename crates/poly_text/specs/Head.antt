-- What the outer object of a puzzle line says, or its first refusal.
use Rattle.std.specs.Prelude.{◌≡◌, ◌≤◌, ℕ, ◌==◌, true, List, length, map, codes, nat_le, if◌then◌else◌, Option, Some, None, Result, Ok}
use Rattle.std.specs.Str.{bytes_eq}
use Rattle.serde_json.specs.Data.{Data}
use Rattle.poly_grid.specs.declared.grid.Grid.{Grid}
use Rattle.poly_grid.specs.declared.grid.Grid.TheVariants.{Square, Hex}
use Rattle.poly_grid.specs.declared.refusal.Refusal.{Refusal}
use Rattle.poly_grid.specs.declared.refusal.Refusal.TheVariants.{BadField, BadFormat, BadGrid, BadBoard, TooManyCells, TooManyPieces}
use Rattle.poly_text.specs.declared.puzzle.head.Format.{Format}
use Rattle.poly_text.specs.declared.puzzle.head.Format.TheVariants.{One, Two}
use Rattle.poly_text.specs.Board.{is_board, board_cells}
use Rattle.poly_text.specs.Gives.{◌>>=◌, ok_or, check}
use Rattle.poly_text.specs.Json as json
use Rattle.poly_text.specs.Outer.{outer_of}
use Rattle.poly_design.specs.declared.design.TheConstants.{MAX_CELLS, MAX_PIECES}

abbrev pub format_of : Option ℕ → Option Format
format_of None = None
format_of (Some n) = if n == 1 then Some One else (if n == 2 then Some Two else None)

abbrev pub grid_of : List ℕ → Option Grid
grid_of name = if bytes_eq name (codes "square") then Some Square else (if bytes_eq name (codes "hex") then Some Hex else None)

pub record Head : Type 0 where
  pub format : Format
  pub grid : Grid
  pub rows : List (List ℕ)
  pub pieces : List Data

unfoldable pub head_of : Data → Result Head Refusal
head_of d = do
  outer ← ok_or (outer_of d) BadField
  format ← ok_or (format_of outer.format) BadFormat
  grid ← ok_or (grid_of outer.grid) BadGrid
  board ← check (is_board (map json.text outer.board)) BadBoard
  cells ← check (nat_le (length (board_cells (map json.text outer.board))) MAX_CELLS) TooManyCells
  pieces ← check (nat_le (length outer.pieces) MAX_PIECES) TooManyPieces
  Ok (record { format = format; grid = grid; rows = map json.text outer.board; pieces = outer.pieces })

-- the limits that an accepted outer object keeps
pub record IsWithin (h : Head) : Type 0 where
  pub board : is_board h.rows ≡ true
  pub cells : length (board_cells h.rows) ≤ MAX_CELLS
  pub pieces : length h.pieces ≤ MAX_PIECES
