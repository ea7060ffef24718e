-- The only item that a change may add to a design is the change's cell or piece.
use Rattle.std.proofs.Common.{Bool, List, Option, ap, false, inl, inr, map, refl, subst, sym, true, ℕ, ◌∙◌, ◌≡◌, ◌≢◌}
use Rattle.std.proofs.lemmas.Bool.{both_ways}
use Rattle.std.specs.Cmp.Lexicographic.{bytes_decides, nat_list_eq_equiv, pointwise}
use Rattle.std.specs.List.{list_any}
use Rattle.std.specs.Prelude.{nat_eq}
use Rattle.poly_grid.specs.Spot.{Spot}
use Rattle.poly_shape.specs.Order.{spot_eq, spot_equiv}
use Rattle.poly_shape.proofs.Ascending.{same_spot}
use Rattle.poly_design.specs.Changes.{changed, set_mode, set_spec}
use Rattle.poly_design.specs.Layout.{Layout}
use Rattle.poly_design.specs.declared.change.Change.{Change}
use Rattle.poly_design.specs.declared.change.Change.TheVariants.{Cell as CellChange, Piece as PieceChange}
use Rattle.poly_design.specs.declared.mode.Mode.{Mode}
use Rattle.poly_design.specs.declared.mode.Mode.TheVariants.{Blocked, Optional, Required}
use Rattle.poly_design.specs.declared.spec.Spec.{Spec}
use Rattle.poly_tiling.specs.declared.bound.Bound.{Bound}
use Rattle.poly_tiling.specs.Puzzle.{same_item}
use Rattle.poly_tiling.specs.Shows.{cell_bound, item_bounds, piece_bound}
use Rattle.poly_tiling.specs.declared.item.Item.{Item}
use Rattle.poly_tiling.specs.declared.item.Item.TheVariants.{Cell, Piece}
use Rattle.poly_tiling.proofs.Lists.{In, any_from, any_in, in_append_cases, in_append_left, in_append_right, in_map, map_in}
use Rattle.poly_tiling.proofs.Tilings.{same_item_is, same_item_self, same_spot_is}
use Rattle.poly_place.specs.Index.{item_of}
use Rattle.poly_place.proofs.Untouched.{in_put, in_taken, spec_from}

mode_from : (cells : List (Spot × Mode)) (c : Spot) (m : Mode) (e : Spot × Mode) → e.0 ≢ c → In e (set_mode cells c m) → In e cells
mode_from cells c Required e d i = in_put same_spot cells c Required e d i
mode_from cells c Optional e d i = in_put same_spot cells c Optional e d i
mode_from cells c Blocked e d i = in_taken same_spot cells c e i

abbrev has_bound : List Bound → Item → Bool
has_bound bs i = list_any (λ b. same_item b.item i) bs

cell_there : (d : Layout) (e : Spot × Mode) → In e d.cells → has_bound (item_bounds d) (Cell e.0) ≡ true
cell_there d e i = any_from (λ b. same_item b.item (Cell e.0)) (item_bounds d) (cell_bound e) (in_append_left (cell_bound e) (map cell_bound d.cells) (map piece_bound d.pieces) (in_map cell_bound d.cells e i)) (same_item_self (Cell e.0))

piece_there : (d : Layout) (e : List ℕ × Spec) → In e d.pieces → has_bound (item_bounds d) (Piece e.0) ≡ true
piece_there d e i = any_from (λ b. same_item b.item (Piece e.0)) (item_bounds d) (piece_bound e) (in_append_right (piece_bound e) (map cell_bound d.cells) (map piece_bound d.pieces) (in_map piece_bound d.pieces e i)) (same_item_self (Piece e.0))

own_cell : (d : Layout) (c : Spot) (m : Mode) (e : Spot × Mode) → In e (set_mode d.cells c m) → has_bound (item_bounds d) (Cell e.0) ≡ false → (b : Bool) → spot_eq e.0 c ≡ b → e.0 ≡ c
own_cell d c m e i none true h = same_spot_is e.0 c h
own_cell d c m e i none false h = absurd (both_ways (has_bound (item_bounds d) (Cell e.0)) none
    (cell_there d e (mode_from d.cells c m e (λ s. both_ways (spot_eq e.0 c) h (subst (λ z. spot_eq e.0 z ≡ true) s (spot_equiv.refl e.0))) i)))

own_piece : (d : Layout) (name : List ℕ) (after : Option Spec) (e : List ℕ × Spec) → In e (set_spec d.pieces name after) → has_bound (item_bounds d) (Piece e.0) ≡ false → (b : Bool) → pointwise nat_eq e.0 name ≡ b → e.0 ≡ name
own_piece d name after e i none true h = (bytes_decides e.0 name).0 h
own_piece d name after e i none false h = absurd (both_ways (has_bound (item_bounds d) (Piece e.0)) none
    (piece_there d e (spec_from d.pieces name after e (λ s. both_ways (pointwise nat_eq e.0 name) h (subst (λ z. pointwise nat_eq e.0 z ≡ true) s (nat_list_eq_equiv.refl e.0))) i)))

-- an item that the design has after the change and didn't have before is the change's cell or piece
arrived : (d : Layout) (y : Change) (b : Bound) → In b (item_bounds (changed d y)) → has_bound (item_bounds d) b.item ≡ false → b.item ≡ item_of y
arrived d (CellChange c before after) b i none = elim (in_append_cases b (map cell_bound (set_mode d.cells c after)) (map piece_bound d.pieces) i) [
  | inl j ↦
      let r = map_in cell_bound (set_mode d.cells c after) b j in
      let is : Cell r.0.0 ≡ b.item = ap (λ (z : Bound). z.item) r.2 in
      sym is ∙ ap Cell (own_cell d c after r.0 r.1 (ap (has_bound (item_bounds d)) is ∙ none) (spot_eq r.0.0 c) refl)
  | inr j ↦
      let r = map_in piece_bound d.pieces b j in
      absurd (both_ways (has_bound (item_bounds d) b.item) none (ap (has_bound (item_bounds d)) (sym (ap (λ (z : Bound). z.item) r.2)) ∙ piece_there d r.0 r.1))
]
arrived d (PieceChange name before after) b i none = elim (in_append_cases b (map cell_bound d.cells) (map piece_bound (set_spec d.pieces name after)) i) [
  | inl j ↦
      let r = map_in cell_bound d.cells b j in
      absurd (both_ways (has_bound (item_bounds d) b.item) none (ap (has_bound (item_bounds d)) (sym (ap (λ (z : Bound). z.item) r.2)) ∙ cell_there d r.0 r.1))
  | inr j ↦
      let r = map_in piece_bound (set_spec d.pieces name after) b j in
      let is : Piece r.0.0 ≡ b.item = ap (λ (z : Bound). z.item) r.2 in
      sym is ∙ ap Piece (own_piece d name after r.0 r.1 (ap (has_bound (item_bounds d)) is ∙ none) (pointwise nat_eq r.0.0 name) refl)
]

pub arrives : (d : Layout) (y : Change) (i : Item) → has_bound (item_bounds (changed d y)) i ≡ true → has_bound (item_bounds d) i ≡ false → i ≡ item_of y
arrives d y i here none =
    let r = any_in (λ b. same_item b.item i) (item_bounds (changed d y)) here in
    let is : r.0.item ≡ i = same_item_is r.0.item i r.2 in
    sym is ∙ arrived d y r.0 r.1 (ap (has_bound (item_bounds d)) is ∙ none)
