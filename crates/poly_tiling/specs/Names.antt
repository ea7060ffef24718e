-- What holds of every view, and how numbers continue from one view to the next.
use Rattle.std.specs.List.{list_all, list_any, AllPairs}
use Rattle.std.specs.Ordering.{is_lt}
use Rattle.std.specs.Prelude.{Bool, List, None, Option, Some, false, length, nat_le, nat_lt, slice_get, true, ℕ, ◌&&◌, [], ◌++◌, ◌∷◌, ◌≡◌, ◌≢◌}
use Rattle.std.specs.declared.cmp.Ordering.{Ordering}
use Rattle.std.specs.declared.cmp.Ordering.TheVariants.{Less, Greater}
use Rattle.poly_shape.specs.Order.{spot_cmp}
use Rattle.poly_design.specs.Name.{name_cmp}
pub use Rattle.poly_design.specs.PlacementOrder.{placement_cmp}
use Rattle.poly_design.specs.declared.placement.Placement.{Placement}
use Rattle.poly_tiling.specs.declared.bound.Bound.{Bound}
use Rattle.poly_tiling.specs.declared.item.Item.{Item}
use Rattle.poly_tiling.specs.declared.item.Item.TheVariants.{Cell, Piece}
use Rattle.poly_tiling.specs.Puzzle.{View, items, same_item}

-- cells in their order, then pieces in theirs
abbrev pub item_cmp : Item → Item → Ordering
item_cmp (Cell a) (Cell b) = spot_cmp a b
item_cmp (Cell a) (Piece n) = Less
item_cmp (Piece m) (Cell b) = Greater
item_cmp (Piece m) (Piece n) = name_cmp m n

abbrev pub placed_below : Option Placement → Option Placement → Bool
placed_below None q = false
placed_below (Some x) None = false
placed_below (Some x) (Some y) = is_lt (placement_cmp x y)

-- the placement of p comes before the placement of q
abbrev pub below : View → ℕ → ℕ → Bool
below v p q = placed_below (slice_get v.placements p) (slice_get v.placements q)

-- the numbers are in the order of their placements
abbrev pub in_order : View → List ℕ → Bool
in_order v [] = true
in_order v (p ∷ ps) = list_all (λ q. below v p q) ps && in_order v ps

-- the items ascend
abbrev pub items_ascend : List Bound → Bool
items_ascend [] = true
items_ascend (b ∷ bs) = list_all (λ c. is_lt (item_cmp b.item c.item)) bs && items_ascend bs

-- All placements differ. The live numbers and the pins name placements, and both are in placement order. The items are in
-- item order, and the items of the live numbers are among them. The least of each item is at most its most, and its most is
-- at most 16.
pub record WellNamed (v : View) : Type 0 where
  pub apart : AllPairs (λ x y. x ≢ y) v.placements
  pub named : list_all (λ p. nat_lt p (length v.placements)) v.live ≡ true
  pub pins_named : list_all (λ p. nat_lt p (length v.placements)) v.pins ≡ true
  pub live_up : in_order v v.live ≡ true
  pub pins_up : in_order v v.pins ≡ true
  pub items_up : items_ascend v.bounds ≡ true
  pub listed : list_all (λ p. list_all (λ i. list_any (λ b. same_item b.item i) v.bounds) (items v p)) v.live ≡ true
  pub small : list_all (λ b. nat_le b.least b.most && nat_le b.most 16) v.bounds ≡ true

-- The later view names what the earlier one names, by the same numbers, and perhaps more.
abbrev pub Names : View → View → Type 0
Names old new = (more : List Placement) × (new.placements ≡ old.placements ++ more)

-- the same design, with numbers that continue those of the earlier view
abbrev pub Grown : View → View → Type 0
Grown v w = Names v w × (w.live ≡ v.live) × (w.bounds ≡ v.bounds) × (w.pins ≡ v.pins)
