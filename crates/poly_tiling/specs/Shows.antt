-- How a view shows a design by numbers.
use Rattle.std.specs.List.{AllPairs, Contains, filter_map, list_all, range_with_len}
use Rattle.std.specs.Option.{option_map}
use Rattle.std.specs.Prelude.{Bool, List, None, Option, Some, [], length, map, nat_lt, slice_get, ℕ, ◌++◌, ◌+◌, ◌∷◌, ◌≤◌, ◌↔◌, ◌≡◌, ◌≢◌}
use Rattle.poly_grid.specs.Spot.{Spot}
use Rattle.poly_design.specs.Layout.{Layout}
use Rattle.poly_design.specs.Listed.{IsListOf}
use Rattle.poly_design.specs.PlacementOrder.{placement_cmp}
use Rattle.poly_design.specs.Placements.{IsPlacement}
use Rattle.poly_design.specs.declared.mode.Mode.{Mode}
use Rattle.poly_design.specs.declared.placement.Placement.{Placement}
use Rattle.poly_design.specs.declared.spec.Spec.{Spec}
use Rattle.poly_tiling.specs.declared.bound.Bound.{Bound}
use Rattle.poly_tiling.specs.declared.item.Item.TheVariants.{Cell, Piece}
use Rattle.poly_tiling.specs.Puzzle.{View}
use Rattle.poly_tiling.specs.Tilings.{IsPin, bounds_of_mode}

-- one of the numbers names the placement
pub record IsNamed (v : View) (numbers : List ℕ) (p : Placement) : Type 0 where
  pub number : ℕ
  pub stands : Contains numbers number
  pub names : slice_get v.placements number ≡ Some p

abbrev pub cell_bound : Spot × Mode → Bound
cell_bound e = record { item = Cell e.0; least = (bounds_of_mode e.1).least; most = (bounds_of_mode e.1).most }

abbrev pub piece_bound : List ℕ × Spec → Bound
piece_bound e = record { item = Piece e.0; least = e.1.copies.least; most = e.1.copies.most }

-- the items of a design with their bounds: its cells in their order, then its pieces in theirs
abbrev pub item_bounds : Layout → List Bound
item_bounds d = map cell_bound d.cells ++ map piece_bound d.pieces

-- the live numbers name exactly the design's placements, the pins exactly the design's pins, and the bounds are the design's
pub record Shows (v : View) (d : Layout) : Type 0 where
  pub places : (p : Placement) → IsNamed v v.live p ↔ IsPlacement d p
  pub pins : (p : Placement) → IsNamed v v.pins p ↔ IsPin d p
  pub bounds : v.bounds ≡ item_bounds d

-- the placements that the numbers name
abbrev pub names : View → List ℕ → List Placement
names v T = filter_map (λ n. slice_get v.placements n) T

-- each number names a placement of the view
abbrev pub given : View → List ℕ → Bool
given v T = list_all (λ n. nat_lt n (length v.placements)) T

-- the numbers name the placements, one by one
abbrev pub StandFor : List Placement → List ℕ → List Placement → Type 0
StandFor placements numbers list = map (λ n. slice_get placements n) numbers ≡ map (λ p. Some p) list

abbrev pub pin_of : List ℕ × Spec → Option Placement
pin_of e = option_map (λ cells. record { name = e.0; cells = cells }) e.1.pin

-- the pins of the pieces, in the order of the pieces
abbrev pub pins_of : List (List ℕ × Spec) → List Placement
pins_of pieces = filter_map pin_of pieces

-- the design's placements in placement order have the numbers from 0 on, which are the live numbers; each number after these
-- names a pin
pub record IsPlain (v : View) (d : Layout) : Type 0 where
  pub places : List Placement
  pub more : List Placement
  pub listed : IsListOf placement_cmp (IsPlacement d) places
  pub named : v.placements ≡ places ++ more
  pub first : v.live ≡ range_with_len 0 (length places)
  pub after : (p : Placement) → Contains more p → IsPin d p

-- the pins have numbers, and the placements that had numbers keep them
pub record AddsPins (pieces : List (List ℕ × Spec)) (old new : List Placement) (pins : List ℕ) : Type 0 where
  pub more : List Placement
  pub grown : new ≡ old ++ more
  pub apart : AllPairs (λ p q. p ≢ q) new
  pub stand : StandFor new pins (pins_of pieces)
  pub after : (p : Placement) → Contains more p → Contains (pins_of pieces) p

-- the placement has that number: it had the number before, or it is added at the end
pub record HasNumber (p : Placement) (old new : List Placement) (n : ℕ) : Type 0 where
  pub more : List Placement
  pub grown : new ≡ old ++ more
  pub names : slice_get new n ≡ Some p
  pub apart : AllPairs (λ p q. p ≢ q) new
  pub after : (q : Placement) → Contains more q → q ≡ p
  pub short : length new ≤ length old + 1

-- if the piece has a pin, the pin's number is added at the end of the pins
abbrev pub PutsPin : List ℕ → Option (List Spot) → List Placement → List Placement → List ℕ → List ℕ → Type 0
PutsPin name None old new pins more = (new ≡ old) × (more ≡ pins)
PutsPin name (Some cells) old new pins more = (n : ℕ) × HasNumber (record { name = name; cells = cells }) old new n × (more ≡ pins ++ n ∷ [])
