-- Placements in the order of their numbers, and how such a list grows.
use Rattle.std.specs.Prelude.{ℕ, ◌+◌, ◌^◌, ◌<◌, ◌≤◌, ◌≡◌, ◌≢◌, ◌⊎◌, List, [], ◌∷◌, ◌++◌, Some, length, map, slice_get}
use Rattle.std.specs.List.{AllPairs, Contains}
use Rattle.poly_shape.specs.Order.{IsAscending}
use Rattle.poly_design.specs.PlacementOrder.{placement_cmp}
use Rattle.poly_design.specs.declared.placement.Placement.{Placement}

-- the placements are all different, and there are at most 2^32 of them, one for each number
pub record AreNumbered (placements : List Placement) : Type 0 where
  pub apart : AllPairs (λ x y. x ≢ y) placements
  pub few : length placements ≤ 2 ^ 32

-- the numbers name the placements, one after another
abbrev pub AreNumbersOf : List Placement → List ℕ → List Placement → Type 0
AreNumbersOf all numbers placements = map (λ n. slice_get all n) numbers ≡ map Some placements

-- the list stays as it is, or the placement, which it lacked, is added at the end
abbrev pub Gives : List Placement → Placement → List Placement → Type 0
Gives old p new = (new ≡ old) ⊎ ((¬ Contains old p) × (new ≡ old ++ p ∷ []))

-- the list is extended by some of the placements that it lacked; if the placements ascend, those that are added ascend too
pub record GoesOnWith (old placements new : List Placement) : Type 0 where
  pub more : List Placement
  pub appended : new ≡ old ++ more
  pub lacked : (p : Placement) → Contains more p → (¬ Contains old p) × Contains placements p
  pub ordered : IsAscending placement_cmp placements → IsAscending placement_cmp more
  pub few : length more ≤ length placements

-- the list is extended, and if its placements were all different, they still are
pub record GoesOn (old new : List Placement) : Type 0 where
  pub more : List Placement
  pub appended : new ≡ old ++ more
  pub apart : AllPairs (λ x y. x ≢ y) old → AllPairs (λ x y. x ≢ y) new

-- together, the two lists have more different placements than there are numbers
pub record AreTooMany (old placements : List Placement) : Type 0 where
  pub all : List Placement
  pub apart : AllPairs (λ x y. x ≢ y) all
  pub among : (p : Placement) → Contains all p → Contains old p ⊎ Contains placements p
  pub many : 2 ^ 32 < length all
  pub sum : 2 ^ 32 < length old + length placements
