-- The tilings of a view that are left once some numbers are chosen and others are ruled out.
use Rattle.std.specs.List.{list_all, list_any}
use Rattle.std.specs.Prelude.{Bool, List, None, Option, Some, length, nat_le, not, true, ℕ, ◌&&◌, ◌+◌, ◌<◌, ◌||◌, ◌≡◌, ◌≤◌}
use Rattle.poly_tiling.specs.declared.item.Item.{Item}
use Rattle.poly_tiling.specs.Lists.{distinct, mem, one, same_list, tally}
use Rattle.poly_tiling.specs.Puzzle.{View, conflicts, count, has_item, is_piece, is_tiling, items, most}

-- the list has each tiling of the view once, and nothing else
abbrev pub HasEachOnce : View → List (List ℕ) → Type 0
HasEachOnce v list = (T : List ℕ) → tally (same_list T) list ≡ one (is_tiling v T)

-- there are more than n tilings: some list of tilings, none of them twice, is longer than n
pub record HasOver (n : ℕ) (v : View) : Type 0 where
  pub list : List (List ℕ)
  pub once : (T : List ℕ) → tally (same_list T) list ≤ one (is_tiling v T)
  pub long : n < length list

-- a tiling that has all the chosen numbers, and apart from them only free ones
unfoldable pub is_left : View → List ℕ → List ℕ → List ℕ → Bool
is_left v chosen free T = is_tiling v T && list_all (λ p. mem T p) chosen && list_all (λ p. mem chosen p || mem free p) T

-- the new list has all that the old one has, and each of the tilings that are left once more
abbrev pub AddsLeft : View → List ℕ → List ℕ → List (List ℕ) → List (List ℕ) → Type 0
AddsLeft v chosen free old new = (T : List ℕ) → tally (same_list T) new ≡ tally (same_list T) old + one (is_left v chosen free T)

-- the new list has each tiling at most as often as the old one, or once more if it is one of the tilings that are left
abbrev pub AddsAtMost : View → List ℕ → List ℕ → List (List ℕ) → List (List ℕ) → Type 0
AddsAtMost v chosen free old new = (T : List ℕ) → tally (same_list T) new ≤ tally (same_list T) old + one (is_left v chosen free T)

-- q isn't chosen and is in conflict with no chosen number, and one more chosen number may have q's piece
unfoldable pub fits_beside : View → List ℕ → ℕ → Bool
fits_beside v chosen q =
    not (mem chosen q)
    && not (list_any (λ p. conflicts v q p) chosen)
    && not (list_any (λ i. is_piece i && nat_le (most v i) (count v chosen i)) (items v q))

-- if an item is given, the number has it
abbrev pub is_option : View → Option Item → ℕ → Bool
is_option v None p = true
is_option v (Some i) p = has_item v p i

-- no number is chosen twice, and no chosen number is free
pub record AreApart (chosen free : List ℕ) : Type 0 where
  pub once : distinct chosen ≡ true
  pub apart : list_all (λ p. not (mem chosen p)) free ≡ true
