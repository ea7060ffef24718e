-- Lists of tilings, and the tilings in them.
use Rattle.std.specs.Prelude.{Bool, List, false, length, slice_index_or, true, ℕ, ◌&&◌, ◌||◌, ◌<◌, ◌==◌, ◌≡◌, ◌≤◌}
use Rattle.std.specs.List.{list_all, list_any}
use Rattle.poly_tiling.specs.Lists.{distinct, mem, same_list, tally}
use Rattle.poly_tiling.specs.Puzzle.{View, is_tiling}
use Rattle.poly_place.specs.declared.delta.Delta.{Delta}
use Rattle.poly_catalogue.specs.Leads.{Leads}
use Rattle.poly_catalogue.specs.Rows.{row}

-- no tiling is listed twice
abbrev pub AreOnce : List (List ℕ) → Type 0
AreOnce list = (T : List ℕ) → tally (same_list T) list ≤ 1

-- the two lists have the same tilings, each equally often, in any order
abbrev pub AreSame : List (List ℕ) → List (List ℕ) → Type 0
AreSame a b = (f : List ℕ → Bool) → tally f a ≡ tally f b

-- the new list has exactly the tilings of the old one that pass, each as often as the old one, in any order
abbrev pub Keeps : (List ℕ → Bool) → List (List ℕ) → List (List ℕ) → Type 0
Keeps p old new = (f : List ℕ → Bool) → tally f new ≡ tally (λ T. f T && p T) old

-- each listed tiling is a tiling of the view `w` or of the view `before`, and the differences lead from `before` to `w`
pub record AreOfEither (w : View) (x : Delta) (list : List (List ℕ)) : Type 0 where
  pub before : View
  pub leads : Leads before w x
  pub either : list_all (λ T. is_tiling before T || is_tiling w T) list ≡ true

-- `indices` has exactly the indices of the listed tilings that have the number, each once and in any order; no tiling has the
-- number twice
pub record AreIndicesWith (list : List (List ℕ)) (number : ℕ) (indices : List ℕ) : Type 0 where
  pub exact : (t : ℕ) → mem indices t ≡ mem (row list t) number
  pub apart : distinct indices ≡ true
  pub once : (t : ℕ) → tally (λ p. p == number) (row list t) ≤ 1

-- the marked tilings of the list are those that have one of the numbers
pub record AreMarked (list : List (List ℕ)) (numbers : List ℕ) (marks : List Bool) : Type 0 where
  pub long : length marks ≡ length list
  pub exact : (t : ℕ) → slice_index_or marks t false ≡ list_any (λ p. mem (row list t) p) numbers

-- the marked tilings of the list are those that pass
pub record AreMarkedBy (p : List ℕ → Bool) (list : List (List ℕ)) (marks : List Bool) : Type 0 where
  pub long : length marks ≡ length list
  pub exact : (t : ℕ) → t < length list → slice_index_or marks t false ≡ p (row list t)

-- the new marks are the old ones, and also mark the tilings of the list that pass
pub record AddsMarks (p : List ℕ → Bool) (list : List (List ℕ)) (old new : List Bool) : Type 0 where
  pub long : length new ≡ length list
  pub exact : (t : ℕ) → t < length list → slice_index_or new t false ≡ (slice_index_or old t false || p (row list t))
