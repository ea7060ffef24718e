-- The index of a list of tilings. Each placement number has a row: the list indices of the tilings that have the number.
-- Each number of a tiling has a position, which says where in the number's row the tiling is.
use Rattle.std.specs.Prelude.{List, Option, Some, length, ℕ, ◌-◌, ◌^◌, ◌<◌, ◌≡◌}
use Rattle.poly_catalogue.specs.Rows.{Puts, at, row}

-- for each number of a tiling, the number's row has the tiling at the position that is noted, and the rows have nothing else
pub record Agree (numbers positions rows : ℕ → ℕ → Option ℕ) : Type 0 where
  pub entered : (t k p : ℕ) → numbers t k ≡ Some p → (j : ℕ) × (positions t k ≡ Some j) × (rows p j ≡ Some t)
  pub backed : (p j t : ℕ) → rows p j ≡ Some t → (k : ℕ) × (numbers t k ≡ Some p) × (positions t k ≡ Some j)

-- no tiling has a number twice
abbrev pub Once : (ℕ → ℕ → Option ℕ) → Type 0
Once numbers = (t k l p : ℕ) → numbers t k ≡ Some p → numbers t l ≡ Some p → k ≡ l

-- `part` is `whole`, perhaps with entries missing
abbrev pub IsPart : (ℕ → ℕ → Option ℕ) → (ℕ → ℕ → Option ℕ) → Type 0
IsPart part whole = (t k p : ℕ) → part t k ≡ Some p → whole t k ≡ Some p

-- the index has entries for some of the tilings' numbers, and no others
pub record HasPart (tilings positions rows : List (List ℕ)) : Type 0 where
  pub numbers : ℕ → ℕ → Option ℕ
  pub part : IsPart numbers (at tilings)
  pub agree : Agree numbers (at positions) (at rows)

-- the index has entries for some of the tilings' numbers and no others, and one of them is for the k-th number of tiling t
pub record HasEntry (tilings positions rows : List (List ℕ)) (t k : ℕ) : Type 0 where
  pub numbers : ℕ → ℕ → Option ℕ
  pub part : IsPart numbers (at tilings)
  pub agree : Agree numbers (at positions) (at rows)
  pub number : ℕ
  pub here : numbers t k ≡ Some number

-- the last entry of p's row is copied to position j of that row, and j is noted as the position that the entry's tiling has
-- there
pub record TakesOver (tilings positions rows : List (List ℕ)) (p j : ℕ) (new_positions new_rows : List (List ℕ)) : Type 0 where
  pub tiling : ℕ
  pub nth : ℕ
  pub last : at rows p (length (row rows p) - 1) ≡ Some tiling
  pub has : at tilings tiling nth ≡ Some p
  pub told : Puts positions tiling nth (Some j) new_positions
  pub put : Puts rows p j (Some tiling) new_rows
  pub long : length (row new_rows p) ≡ length (row rows p)

-- an index with an entry for each number of each tiling; no tiling has a number twice
pub record IsIndex (tilings positions rows : List (List ℕ)) : Type 0 where
  pub few : length tilings < 2 ^ 32
  pub even : length positions ≡ length tilings
  pub once : Once (at tilings)
  pub agree : Agree (at tilings) (at positions) (at rows)
