-- The leading digits of a list of ranks, and parts of a list.
use Rattle.std.specs.List.{All}
use Rattle.std.specs.Prelude.{List, None, Option, Some, [], drop, length, slice_get, slice_index_or, suc, take, zero, ℕ, ◌*◌, ◌+◌, ◌-◌, ◌<◌, ◌≤◌}

-- the part of a list between two indices
abbrev pub part : List ℕ → ℕ × ℕ → List ℕ
part xs s = take (s.1 - s.0) (drop s.0 xs)

-- each pair marks a part of the list: the index of the part's first number, and the index after the part's last number
abbrev pub AreSpans : List ℕ → List (ℕ × ℕ) → Type 0
AreSpans xs = All (λ s. (s.0 ≤ s.1) × (s.1 ≤ length xs))

-- the tiling with this index; the empty one if there is none
abbrev pub tiling_at : List (List ℕ) → ℕ → List ℕ
tiling_at tilings i = slice_index_or tilings i []

-- a number as a digit: one more than the number, and 0 for none
abbrev pub digit_of : Option ℕ → ℕ
digit_of None = 0
digit_of (Some x) = x + 1

abbrev pub digit_at : List ℕ → ℕ → ℕ
digit_at xs i = digit_of (slice_get xs i)

-- the number that the first n digits of the list make in this base
abbrev pub leading : ℕ → List ℕ → ℕ → ℕ
leading base xs zero = 0
leading base xs (suc n) = leading base xs n * base + digit_at xs n

-- the digit of each number is below the base
abbrev pub AreDigits : ℕ → List ℕ → Type 0
AreDigits base = All (λ x. x + 1 < base)
