-- Receipts, and what they say about a book.
use Rattle.std.specs.Global.{Global}
use Rattle.std.specs.List.{All, flat_map, list_any}
use Rattle.std.specs.Prelude.{Bool, List, Some, Vec, false, length, reverse, slice_get, slice_index_or, take, true, ℕ, ◌++◌, ◌+◌, ◌<◌, ◌==◌, ◌∷◌, ◌≡◌, ◌⊎◌}
use Rattle.poly_grid.specs.declared.refusal.Refusal.{Refusal}
use Rattle.poly_grid.specs.declared.refusal.Refusal.TheVariants.{Unsettled}
use Rattle.poly_book.specs.declared.step.Ending.TheVariants as ending
use Rattle.poly_book.specs.States.{State}
use Rattle.poly_desk.specs.declared.receipt.Receipt.{Receipt}
use Rattle.poly_desk.specs.declared.receipt.Receipt.TheVariants.{Changed, Cut}

-- the list has the entry at the place, counted from 1
abbrev pub IsAt : {X : Type 0} → List X → ℕ → X → Type 0
IsAt xs place x = (i : ℕ) × (place ≡ i + 1) × (slice_get xs i ≡ Some x)

-- at the receipt's place, the book has what the receipt says: among the steps, the oldest first, or among the endings
abbrev pub IsRightReceipt : State → Receipt → Type 0
IsRightReceipt b (Changed place step) = IsAt (reverse b.steps) place step
IsRightReceipt b (Cut place task) = IsAt b.endings place (ending.Cut task)

abbrev pub place_of : Receipt → ℕ
place_of (Changed place step) = place
place_of (Cut place task) = place

-- how many steps the book has, for a change; how many endings, for a cut
abbrev pub entries : State → Receipt → ℕ
entries b (Changed place step) = length b.steps
entries b (Cut place task) = length b.endings

-- the receipts have the same kind and the same place
abbrev pub same_place : Receipt → Receipt → Bool
same_place (Changed place step) (Changed other s) = place == other
same_place (Changed place step) (Cut other t) = false
same_place (Cut place task) (Changed other s) = false
same_place (Cut place task) (Cut other t) = place == other

-- one of the receipts in the list has the kind and the place of the given one
abbrev pub is_taken : List Receipt → Receipt → Bool
is_taken rs r = list_any (λ q. same_place q r) rs

-- no receipt has the kind and the place of one before it
abbrev pub HaveDistinctPlaces : List Receipt → Type 0
HaveDistinctPlaces rs = (k : ℕ) (d : Receipt) → k < length rs → is_taken (take k rs) (slice_index_or rs k d) ≡ false

-- each receipt is right, and no two receipts of one kind have the same place
pub record AreReceipts (b : State) (rs : List Receipt) : Type 0 where
  pub right : All (IsRightReceipt b) rs
  pub distinct : HaveDistinctPlaces rs

-- the refusal names a receipt that isn't right, or one that has the kind and the place of a receipt before it
abbrev pub IsBadReceipt : State → List Receipt → Refusal → Type 0
IsBadReceipt b rs e = (before : List Receipt) × (r : Receipt) × (after : List Receipt) × (rs ≡ before ++ r ∷ after) ×
    (((e ≡ Unsettled (place_of r) (entries b r)) × (¬ IsRightReceipt b r))
    ⊎ ((e ≡ Unsettled (place_of r) 2) × IsRightReceipt b r × (is_taken before r ≡ true)))

-- the receipts of all lists, in their order
abbrev pub all_of : List (Vec Receipt Global) → List Receipt
all_of lists = flat_map (λ v. v.items) lists
