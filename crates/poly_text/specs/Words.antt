-- The words of a line, and what a word may be.
use Rattle.std.specs.Prelude.{ℕ, ◌+◌, ◌==◌, ◌&&◌, Bool, true, false, not, length, List, [], ◌∷◌, codes, filter, take, drop, nat_lt, nat_le, if◌then◌else◌, Option, Some, None, Result, Ok}
use Rattle.std.specs.Char.{is_digit}
use Rattle.std.specs.List.{slice_split, list_all, position}
use Rattle.std.specs.Result.{is_ok}
use Rattle.std.specs.Str.{bytes_eq}
use Rattle.std.specs.Str.Parse.{digits_value}
use Rattle.poly_grid.specs.Spot.{Spot}
use Rattle.poly_grid.specs.declared.cell.TheConstants.{SIDE}
use Rattle.poly_grid.specs.declared.refusal.Refusal.{Refusal}
use Rattle.poly_grid.specs.declared.refusal.Refusal.TheVariants.{BadCommand, BadCell}
use Rattle.poly_design.specs.declared.need.Need.{Need}
use Rattle.poly_design.specs.declared.need.Need.TheVariants as need
use Rattle.poly_design.specs.declared.mode.Mode.{Mode}
use Rattle.poly_design.specs.declared.mode.Mode.TheVariants as mode
use Rattle.poly_text.specs.Gives.{◌>>=◌, ok_or, check}
use Rattle.poly_text.specs.Json.{when}

abbrev pub has_byte : List ℕ → Bool
has_byte word = not (length word == 0)

-- the parts between spaces that are not empty
abbrev pub words_of : List ℕ → List (List ℕ)
words_of line = filter has_byte (slice_split (λ b. b == 32) line)

abbrev pub need_of : List ℕ → Option Need
need_of word = if bytes_eq word (codes "required") then Some need.Required else (if bytes_eq word (codes "optional") then Some need.Optional else None)

abbrev pub switch_of : List ℕ → Option Bool
switch_of word = if bytes_eq word (codes "on") then Some true else (if bytes_eq word (codes "off") then Some false else None)

abbrev pub mode_of : List ℕ → Option Mode
mode_of word =
    if bytes_eq word (codes "required") then Some mode.Required
    else (if bytes_eq word (codes "optional") then Some mode.Optional else (if bytes_eq word (codes "blocked") then Some mode.Blocked else None))

-- one or more decimal digits
abbrev pub is_number : List ℕ → Bool
is_number word = nat_lt 0 (length word) && list_all (λ b. is_digit b 10) word

-- the number that the word writes in digits; leading zeros are allowed
abbrev pub number_of : List ℕ → Option ℕ
number_of word = when (is_number word) (digits_value 10 word)

-- a coordinate is written with 1 to 9 digits
abbrev pub coordinate_of : List ℕ → Option ℕ
coordinate_of word = when (is_number word && nat_le (length word) 9) (digits_value 10 word)

-- two coordinates with a comma between them: the column and the row
unfoldable pub coordinates_of : List ℕ → Result (ℕ × ℕ) Refusal
coordinates_of word = do
  comma ← ok_or (position (λ b. b == 44) word) BadCommand
  column ← ok_or (coordinate_of (take comma word)) BadCommand
  row ← ok_or (coordinate_of (drop (comma + 1) word)) BadCommand
  Ok (column, row)

-- the cell of two coordinates, or `BadCell` if one is over 63
abbrev pub cell_at : ℕ × ℕ → Result Spot Refusal
cell_at at = ok_or (when (nat_lt at.0 SIDE && nat_lt at.1 SIDE) (record { x = at.0; y = at.1 })) BadCell

abbrev pub cell_of : List ℕ → Result Spot Refusal
cell_of word = coordinates_of word >>= cell_at

-- what each word is read as, or the refusal of the leftmost word that is refused
abbrev pub read_each : {A : Type 0} → (List ℕ → Result A Refusal) → List (List ℕ) → Result (List A) Refusal
read_each f [] = Ok []
read_each f (word ∷ words) = do
  x ← f word
  xs ← read_each f words
  Ok (x ∷ xs)

-- the cells that the words name, or the refusal of the leftmost word that names none
abbrev pub cells_of : List (List ℕ) → Result (List Spot) Refusal
cells_of words = read_each cell_of words

-- the parts between slashes
abbrev pub parts_of : List ℕ → List (List ℕ)
parts_of text = slice_split (λ b. b == 47) text

-- cells with slashes between them: all parts must have the form of a cell before any number is judged
abbrev pub listed_cells : List ℕ → Result (List Spot) Refusal
listed_cells text = do
  formed ← check (list_all (λ part. is_ok (coordinates_of part)) (parts_of text)) BadCommand
  cells_of (parts_of text)
