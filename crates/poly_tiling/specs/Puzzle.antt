-- What a tiling is, by numbers: an exact cover with primary and secondary items and with multiplicities
-- (Knuth, The Art of Computer Programming, volume 4B, section 7.2.2.1). A placement is named by a number.
use Rattle.std.specs.List.{list_all, list_any}
use Rattle.std.specs.Prelude.{Bool, true, false, List, None, Option, Some, [], cond, map, nat_eq, nat_le, not, slice_get, ℕ, ◌&&◌, ◌==◌, ◌∷◌}
use Rattle.std.specs.Cmp.Lexicographic.{pointwise}
use Rattle.poly_grid.specs.Spot.{Spot}
use Rattle.poly_shape.specs.Order.{spot_eq}
use Rattle.poly_design.specs.declared.placement.Placement.{Placement}
use Rattle.poly_tiling.specs.declared.bound.Bound.{Bound}
use Rattle.poly_tiling.specs.declared.item.Item.{Item}
use Rattle.poly_tiling.specs.declared.item.Item.TheVariants.{Cell, Piece}
use Rattle.poly_tiling.specs.Lists.{ascending, mem, tally}

-- A design as the numbers show it: the placement that each number names, the numbers of the design's placements in
-- placement order, the items with their bounds in item order, and the numbers of the pins in placement order.
pub record View : Type 0 where
  pub placements : List Placement
  pub live : List ℕ
  pub bounds : List Bound
  pub pins : List ℕ

abbrev pub same_item : Item → Item → Bool
same_item (Cell c) (Cell d) = spot_eq c d
same_item (Cell c) (Piece n) = false
same_item (Piece m) (Cell d) = false
same_item (Piece m) (Piece n) = pointwise nat_eq m n

-- The items of a placement are its piece and its cells; a number that names no placement has none.
abbrev pub items_of : Option Placement → List Item
items_of None = []
items_of (Some p) = Piece p.name ∷ map (λ c. Cell c) p.cells

abbrev pub items : View → ℕ → List Item
items v p = items_of (slice_get v.placements p)

abbrev pub has_item : View → ℕ → Item → Bool
has_item v p i = list_any (λ j. same_item j i) (items v p)

abbrev pub has_cell : List Spot → Spot → Bool
has_cell cells c = list_any (λ d. spot_eq d c) cells

abbrev pub share_cell : Option Placement → Option Placement → Bool
share_cell None q = false
share_cell (Some p) None = false
share_cell (Some p) (Some q) = list_any (λ c. has_cell q.cells c) p.cells

-- two placements are in conflict if they are different and share a cell
abbrev pub conflicts : View → ℕ → ℕ → Bool
conflicts v p q = not (p == q) && share_cell (slice_get v.placements p) (slice_get v.placements q)

-- how many members of T have the item
abbrev pub count : View → List ℕ → Item → ℕ
count v T i = tally (λ p. has_item v p i) T

abbrev pub bound_in : List Bound → Item → (Bound → ℕ) → ℕ
bound_in [] i f = 0
bound_in (b ∷ bs) i f = cond (same_item b.item i) (f b) (bound_in bs i f)

-- the bounds of an item, 0 and 0 if the design doesn't have it
abbrev pub least : View → Item → ℕ
least v i = bound_in v.bounds i (λ b. b.least)

abbrev pub most : View → Item → ℕ
most v i = bound_in v.bounds i (λ b. b.most)

-- ascending numbers of placements of the design, with all pins and no two in conflict, that cover each item at least as often
-- as its least and at most as often as its most
abbrev pub is_tiling : View → List ℕ → Bool
is_tiling v T =
    ascending T
    && list_all (λ p. mem v.live p) T
    && list_all (λ p. not (list_any (λ q. conflicts v p q) T)) T
    && list_all (λ b. nat_le (least v b.item) (count v T b.item)) v.bounds
    && list_all (λ p. list_all (λ i. nat_le (count v T i) (most v i)) (items v p)) T
    && list_all (λ p. mem T p) v.pins

abbrev pub found_or : (Bound → ℕ) → Option Bound → ℕ
found_or f None = 0
found_or f (Some b) = f b

abbrev pub is_piece : Item → Bool
is_piece (Cell c) = false
is_piece (Piece n) = true
