-- Sets as the ascending lists of their members.
use Rattle.std.specs.Prelude.{◌≡◌, ◌↔◌, ◌⊎◌, ◌<◌, ◌≤◌, ℕ, List, length, slice_index_or}
use Rattle.std.specs.declared.cmp.Ordering.{Ordering}
use Rattle.std.specs.declared.cmp.Ordering.TheVariants.{Less, Greater}
use Rattle.std.specs.List.{AllWithin, Contains}
use Rattle.poly_shape.specs.Order.{IsAscending}

-- the list has exactly the x that satisfy P, each once, in ascending order
pub record IsListOf {X : Type 0} (cmp : X → X → Ordering) (P : X → Type 0) (list : List X) : Type 0 where
  pub ascending : IsAscending cmp list
  pub exact : (x : X) → Contains list x ↔ P x

-- exactly this many x satisfy P
pub record IsCount {X : Type 0} (cmp : X → X → Ordering) (P : X → Type 0) (count : ℕ) : Type 0 where
  pub list : List X
  pub listed : IsListOf cmp P list
  pub whole : length list ≡ count

-- the new list has exactly what the old one has, and each x that satisfies P
abbrev pub AddsAll : {X : Type 0} → (X → Type 0) → List X → List X → Type 0
AddsAll {X} P old new = (x : X) → Contains new x ↔ (Contains old x ⊎ P x)

-- the new list has exactly what the old one has, except x
abbrev pub TakesAway : {X : Type 0} → X → List X → List X → Type 0
TakesAway {X} x old new = (y : X) → Contains new y ↔ (Contains old y × (¬ (x ≡ y)))

-- the list has x at that index
pub record HasAt {X : Type 0} (list : List X) (at : ℕ) (x : X) : Type 0 where
  pub within : at < length list
  pub is : (d : X) → slice_index_or list at d ≡ x

-- the elements before that index are below x, and those from the index on are above x
pub record IsGapFor {X : Type 0} (cmp : X → X → Ordering) (x : X) (list : List X) (at : ℕ) : Type 0 where
  pub within : at ≤ length list
  pub below : AllWithin (λ y. cmp y x ≡ Less) list 0 at
  pub above : AllWithin (λ y. cmp y x ≡ Greater) list at (length list)
