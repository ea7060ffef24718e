-- The steps of reading a puzzle line, put together.
use Rattle.std.proofs.Common.{◌≡◌, ℕ, List, [], Result, Ok, Err, refl, ap, subst, inl, inr}
use Rattle.std.specs.Prelude.{◌⊎◌, IsOk, IfOk, IfErr}
use Rattle.serde_json.specs.Data.{Data}
use Rattle.poly_grid.specs.Spot.{Spot}
use Rattle.poly_grid.specs.declared.refusal.Refusal.{Refusal}
use Rattle.poly_grid.specs.declared.refusal.Refusal.TheVariants.{BadJson, Memory, TooManyPlacements}
use Rattle.poly_design.specs.Layout.{Layout}
use Rattle.poly_design.specs.Placements.{FewPlacements}
use Rattle.poly_design.specs.declared.mode.Mode.{Mode}
use Rattle.poly_text.specs.Board.{board_cells}
use Rattle.poly_text.specs.Gives.{ok_or, GivesBy}
use Rattle.poly_text.specs.Head.{Head, head_of}
use Rattle.poly_text.specs.Piece.{Pieces, PiecesSay}
use Rattle.poly_text.specs.Puzzle.{json_of, layout_of, DesignSays, PuzzleSays}

joined : (line : List ℕ) (d : Data) (h : Head) (pieces : Pieces) (r : Result Layout Refusal) → ok_or (json_of line) BadJson ≡ Ok d → Ok h ≡ head_of d
    → PiecesSay h.format h.grid h.pieces [] (Ok pieces) → DesignSays (layout_of h pieces) r → PuzzleSays line r
joined line d h pieces r is head says design = rw (is, ← head) (Ok pieces, says, design)

abbrev pub parts_layout : Head → List (Spot × Mode) → Pieces → Layout
parts_layout h cells pieces = record { grid = h.grid; cells = cells; pieces = pieces }

design_says : (layout : Layout) (result : Result Layout Refusal) → IfOk result (λ d. d ≡ layout) → (IsOk result → FewPlacements layout) → (result ≡ Err TooManyPlacements → FewPlacements layout → ⊥)
    → IfErr result (λ e. (e ≡ TooManyPlacements) ⊎ (e ≡ Memory)) → GivesBy (λ d. d) result (DesignSays layout)
design_says layout (Ok d) ok few many why = (ok, few refl)
design_says layout (Err e) ok few many (inl many_placements) = inr (many_placements, many (ap Err many_placements))
design_says layout (Err e) ok few many (inr memory) = inl memory

weaker : (P Q : Result Layout Refusal → Type 0) (result : Result Layout Refusal) → ((r : Result Layout Refusal) → P r → Q r) → GivesBy (λ d. d) result P → GivesBy (λ d. d) result Q
weaker P Q (Ok d) to p = to (Ok d) p
weaker P Q (Err e) to (inl memory) = inl memory
weaker P Q (Err e) to (inr p) = inr (to (Err e) p)

pub puzzle_gives : (line : List ℕ) (d : Data) (h : Head) (cells : List (Spot × Mode)) (pieces : Pieces) (result : Result Layout Refusal) → ok_or (json_of line) BadJson ≡ Ok d → Ok h ≡ head_of d
    → PiecesSay h.format h.grid h.pieces [] (Ok pieces) → cells ≡ board_cells h.rows → IfOk result (λ l. l ≡ parts_layout h cells pieces) → (IsOk result → FewPlacements (parts_layout h cells pieces))
    → (result ≡ Err TooManyPlacements → FewPlacements (parts_layout h cells pieces) → ⊥) → IfErr result (λ e. (e ≡ TooManyPlacements) ⊎ (e ≡ Memory)) → GivesBy (λ l. l) result (PuzzleSays line)
puzzle_gives line d h cells pieces result is head says same ok few many why =
    weaker (DesignSays (parts_layout h cells pieces)) (PuzzleSays line) result (λ r design. joined line d h pieces r is head says (subst (λ z. DesignSays (parts_layout h z pieces) r) same design))
    (design_says (parts_layout h cells pieces) result ok few many why)
