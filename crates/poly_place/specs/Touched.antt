-- What a change of one cell or one piece may touch.
use Rattle.std.specs.List.{AllPairs, list_any}
use Rattle.std.specs.Option.{option_cmp}
use Rattle.std.specs.Ordering.{is_lt}
use Rattle.std.specs.Prelude.{ℕ, ◌≡◌, Bool, List, None, Option, Some, false, nat_eq, slice_get, slice_index_or, true}
use Rattle.std.specs.Cmp.Lexicographic.{pointwise}
use Rattle.std.specs.declared.cmp.Ordering.{Ordering}
use Rattle.poly_shape.specs.Order.{spot_eq}
use Rattle.poly_design.specs.PlacementOrder.{placement_cmp}
use Rattle.poly_design.specs.declared.change.Change.{Change}
use Rattle.poly_design.specs.declared.change.Change.TheVariants.{Cell, Piece}
use Rattle.poly_design.specs.declared.placement.Placement.{Placement}
use Rattle.poly_tiling.specs.Lists.{mem}
use Rattle.poly_tiling.specs.Puzzle.{View}

-- the placement covers the changed cell, or belongs to the changed piece
abbrev pub touches : Change → Placement → Bool
touches (Cell c before after) p = list_any (λ k. spot_eq k c) p.cells
touches (Piece name before after) p = pointwise nat_eq p.name name

abbrev pub touches_named : Change → Option Placement → Bool
touches_named x None = false
touches_named x (Some p) = touches x p

-- the marks tell for each live number whether the change touches its placement
abbrev pub AreMarked : View → Change → List Bool → Type 0
AreMarked v x marks = (n : ℕ) → mem v.live n ≡ true → slice_index_or marks n false ≡ touches_named x (slice_get v.placements n)

-- compares two numbers by the placements that they name
abbrev pub number_cmp : List Placement → ℕ → ℕ → Ordering
number_cmp all m n = option_cmp placement_cmp (slice_get all m) (slice_get all n)

-- whether the placement of the first number comes before the placement of the second number
abbrev pub comes_before : List Placement → ℕ → ℕ → Bool
comes_before all m n = is_lt (number_cmp all m n)

-- the numbers are in the order of their placements: no number comes before one that is earlier in the list
abbrev pub AreInOrder : List Placement → List ℕ → Type 0
AreInOrder all numbers = AllPairs (λ m n. comes_before all n m ≡ false) numbers
