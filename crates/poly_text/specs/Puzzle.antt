-- What a puzzle line says: a design, or its first refusal.
use Rattle.std.specs.Prelude.{◌≡◌, ℕ, List, [], if◌then◌else◌, Option, None, Result, Ok, Err}
use Rattle.std.specs.Str.{is_utf8}
use Rattle.serde_json.specs.Data.{Data}
use Rattle.serde_json.specs.Read.{read}
use Rattle.poly_grid.specs.declared.refusal.Refusal.{Refusal}
use Rattle.poly_grid.specs.declared.refusal.Refusal.TheVariants.{BadJson, TooManyPlacements}
use Rattle.poly_design.specs.Layout.{Layout}
use Rattle.poly_design.specs.Placements.{FewPlacements}
use Rattle.poly_text.specs.Board.{board_cells}
use Rattle.poly_text.specs.Gives.{◌>>=◌, ok_or, Follows}
use Rattle.poly_text.specs.Head.{Head, head_of}
use Rattle.poly_text.specs.Piece.{Pieces, PiecesSay}

-- the JSON value of the line, if it is valid UTF-8 and valid JSON
abbrev pub json_of : List ℕ → Option Data
json_of line = if is_utf8 line then read line else None

abbrev pub judged : List ℕ → Result Head Refusal
judged line = ok_or (json_of line) BadJson >>= head_of

abbrev pub layout_of : Head → Pieces → Layout
layout_of h pieces = record { grid = h.grid; cells = board_cells h.rows; pieces = pieces }

-- the design of the layout, or a refusal if it has too many placements
abbrev pub DesignSays : Layout → Result Layout Refusal → Type 0
DesignSays layout (Ok d) = (d ≡ layout) × FewPlacements layout
DesignSays layout (Err e) = (e ≡ TooManyPlacements) × (FewPlacements layout → ⊥)

abbrev pub PuzzleSays : List ℕ → Result Layout Refusal → Type 0
PuzzleSays line r = Follows (judged line) (λ h. (p : Result Pieces Refusal) × PiecesSay h.format h.grid h.pieces [] p × Follows p (λ pieces. DesignSays (layout_of h pieces) r) r) r
