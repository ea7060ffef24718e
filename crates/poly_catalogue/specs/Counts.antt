-- Counts by listed tiling.
use Rattle.std.specs.Prelude.{Bool, List, length, min, nat_le, slice_index_or, ℕ, ◌&&◌, ◌+◌, ◌<◌, ◌≡◌}
use Rattle.poly_tiling.specs.Lists.{tally}
use Rattle.poly_catalogue.specs.Rows.{row}

-- the count of tiling t is n, or 255 if n is greater
abbrev pub IsCount : List ℕ → ℕ → ℕ → Type 0
IsCount counts t n = slice_index_or counts t 0 ≡ min n 255

-- the count of each tiling says how many of its numbers pass
abbrev pub AreCounts : (ℕ → Bool) → List (List ℕ) → List ℕ → Type 0
AreCounts f list counts = (t : ℕ) → IsCount counts t (tally f (row list t))

-- to the count of each tiling is added how many of its numbers pass
abbrev pub AddsCounts : (ℕ → Bool) → List (List ℕ) → List ℕ → List ℕ → Type 0
AddsCounts f list old new = (t n : ℕ) → IsCount old t n → IsCount new t (n + tally f (row list t))

-- the count of tiling t is at least `least` and at most `most`
abbrev pub between : List ℕ → ℕ → ℕ → ℕ → Bool
between counts least most t = nat_le least (slice_index_or counts t 0) && nat_le (slice_index_or counts t 0) most

-- the tilings of the list that pass are those whose count is at least `least` and at most `most`
abbrev pub ArePassing : (List ℕ → Bool) → List (List ℕ) → List ℕ → ℕ → ℕ → Type 0
ArePassing p list counts least most = (t : ℕ) → t < length list → p (row list t) ≡ between counts least most t
