-- Flags by placement number.
use Rattle.std.specs.Prelude.{Bool, List, false, nat_le, nat_lt, slice_index_or, true, ℕ, ◌&&◌, ◌≡◌}
use Rattle.std.specs.List.{list_all}
use Rattle.poly_tiling.specs.Lists.{tally}

-- how many of the numbers are flagged
abbrev pub flagged : List Bool → List ℕ → ℕ
flagged flags T = tally (λ p. slice_index_or flags p false) T

-- at least `least` and at most `most` of the numbers are flagged
abbrev pub within : List Bool → ℕ → ℕ → List ℕ → Bool
within flags least most T = nat_le least (flagged flags T) && nat_le (flagged flags T) most

-- the numbers of the tilings are all below n
abbrev pub AreBelow : ℕ → List (List ℕ) → Type 0
AreBelow n list = list_all (λ T. list_all (λ p. nat_lt p n) T) list ≡ true
