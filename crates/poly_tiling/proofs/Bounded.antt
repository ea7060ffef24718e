-- The bounds of an item, by the list of a design's items and by the design itself.
use Rattle.std.proofs.Common.{Bool, List, Some, [], ap, cond, false, map, refl, sym, true, ℕ, ◌++◌, ◌∙◌, ◌∷◌, ◌≡◌}
use Rattle.std.specs.Prelude.{nat_eq, unwrap_or}
use Rattle.std.specs.Map.{lookup}
use Rattle.std.specs.BTreeMap.{is_at}
use Rattle.std.specs.Cmp.Lexicographic.{nat_list_eq_equiv, pointwise, texts_ties}
use Rattle.poly_grid.specs.Spot.{Spot}
use Rattle.poly_shape.specs.Order.{spot_cmp, spot_eq, spot_equiv, spot_ties}
use Rattle.poly_design.specs.Bounds.{Bounds}
use Rattle.poly_design.specs.Layout.{Layout, mode_at}
use Rattle.poly_design.specs.Name.{name_cmp}
use Rattle.poly_design.specs.declared.mode.Mode.{Mode}
use Rattle.poly_design.specs.declared.mode.Mode.TheVariants.{Blocked}
use Rattle.poly_design.specs.declared.spec.Spec.{Spec}
use Rattle.poly_tiling.specs.declared.item.Item.{Item}
use Rattle.poly_tiling.specs.declared.item.Item.TheVariants.{Cell, Piece}
use Rattle.poly_tiling.specs.declared.bound.Bound.{Bound}
use Rattle.poly_tiling.specs.Puzzle.{bound_in}
use Rattle.poly_tiling.specs.Tilings.{bounds_of, bounds_of_mode, bounds_of_piece}
use Rattle.poly_tiling.specs.Shows.{cell_bound, item_bounds, piece_bound}

-- the least or the most of a bound, as `pick` chooses
abbrev pub read : (Bounds → ℕ) → Bound → ℕ
read pick b = pick (record { least = b.least; most = b.most })

abbrev nothing : Bounds
nothing = record { least = 0; most = 0 }

pub cell_test : (c d : Spot) → spot_eq d c ≡ is_at (spot_cmp c) d
cell_test c d = spot_equiv.symm d c ∙ spot_ties c d

name_test : (m n : List ℕ) → pointwise nat_eq n m ≡ is_at (name_cmp m) n
name_test m n = nat_list_eq_equiv.symm n m ∙ texts_ties m n

-- the bounds of pieces have no cell, and the bounds of cells have no piece
cell_in_pieces : (pieces : List (List ℕ × Spec)) (c : Spot) (f : Bound → ℕ) → bound_in (map piece_bound pieces) (Cell c) f ≡ 0
cell_in_pieces [] c f = refl
cell_in_pieces (e ∷ es) c f = cell_in_pieces es c f

past_cells : (cells : List (Spot × Mode)) (bs : List Bound) (n : List ℕ) (f : Bound → ℕ) → bound_in (map cell_bound cells ++ bs) (Piece n) f ≡ bound_in bs (Piece n) f
past_cells [] bs n f = refl
past_cells (e ∷ es) bs n f = past_cells es bs n f

cell_at : (pick : Bounds → ℕ) (e : Spot × Mode) (es : List (Spot × Mode)) (c : Spot) (rest : ℕ) → rest ≡ pick (bounds_of_mode (mode_at es c)) →
    (b : Bool) → cond b (read pick (cell_bound e)) rest ≡ pick (bounds_of_mode (unwrap_or (cond b (Some e.1) (lookup (is_at (spot_cmp c)) es)) Blocked))
cell_at pick e es c rest ih true = refl
cell_at pick e es c rest ih false = ih

cell_bounds : (pick : Bounds → ℕ) → pick nothing ≡ 0 → (cells : List (Spot × Mode)) (pieces : List (List ℕ × Spec)) (c : Spot) →
    bound_in (map cell_bound cells ++ map piece_bound pieces) (Cell c) (read pick) ≡ pick (bounds_of_mode (mode_at cells c))
cell_bounds pick none [] pieces c = cell_in_pieces pieces c (read pick) ∙ sym none
cell_bounds pick none (e ∷ es) pieces c =
    ap (λ b. cond b (read pick (cell_bound e)) (bound_in (map cell_bound es ++ map piece_bound pieces) (Cell c) (read pick))) (cell_test c e.0)
    ∙ cell_at pick e es c (bound_in (map cell_bound es ++ map piece_bound pieces) (Cell c) (read pick)) (cell_bounds pick none es pieces c) (is_at (spot_cmp c) e.0)

piece_at : (pick : Bounds → ℕ) (e : List ℕ × Spec) (es : List (List ℕ × Spec)) (n : List ℕ) (rest : ℕ) → rest ≡ pick (bounds_of_piece (lookup (is_at (name_cmp n)) es)) →
    (b : Bool) → cond b (read pick (piece_bound e)) rest ≡ pick (bounds_of_piece (cond b (Some e.1) (lookup (is_at (name_cmp n)) es)))
piece_at pick e es n rest ih true = refl
piece_at pick e es n rest ih false = ih

piece_bounds : (pick : Bounds → ℕ) → pick nothing ≡ 0 → (pieces : List (List ℕ × Spec)) (n : List ℕ) →
    bound_in (map piece_bound pieces) (Piece n) (read pick) ≡ pick (bounds_of_piece (lookup (is_at (name_cmp n)) pieces))
piece_bounds pick none [] n = sym none
piece_bounds pick none (e ∷ es) n =
    ap (λ b. cond b (read pick (piece_bound e)) (bound_in (map piece_bound es) (Piece n) (read pick))) (name_test n e.0)
    ∙ piece_at pick e es n (bound_in (map piece_bound es) (Piece n) (read pick)) (piece_bounds pick none es n) (is_at (name_cmp n) e.0)

-- the bounds in the list of a design's items are the bounds that the definitions give these items
pub shown_bounds : (d : Layout) (pick : Bounds → ℕ) → pick nothing ≡ 0 → (i : Item) → bound_in (item_bounds d) i (read pick) ≡ pick (bounds_of d i)
shown_bounds d pick none (Cell c) = cell_bounds pick none d.cells d.pieces c
shown_bounds d pick none (Piece n) = past_cells d.cells (map piece_bound d.pieces) n (read pick) ∙ piece_bounds pick none d.pieces n
