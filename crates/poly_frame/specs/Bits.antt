-- A set of numbers as bits of words.
use Rattle.std.specs.Prelude.{Bool, List, false, not, slice_index, true, ℕ, ◌%◌, ◌&&◌, ◌*◌, ◌+◌, ◌/◌, ◌<◌, ◌==◌, ◌||◌, ◌≡◌, ◌≤◌}
use Rattle.std.specs.Int.{bit_at}

-- the number is in the set
unfoldable pub has_bit : List ℕ → ℕ → Bool
has_bit words x = bit_at (slice_index words (x / 64)) (x % 64) == 1

-- `new` has the bits that `word` has and none of the words a, b and c has
abbrev pub IsLess : ℕ → ℕ → ℕ → ℕ → ℕ → Type 0
IsLess new word a b c = (t : ℕ) → t < 64 → (bit_at new t == 1) ≡ ((bit_at word t == 1) && not ((bit_at a t == 1) || ((bit_at b t == 1) || (bit_at c t == 1))))

-- `new` has the bits that `word` has and none of the words a to f has
abbrev pub IsLessSix : ℕ → ℕ → ℕ → ℕ → ℕ → ℕ → ℕ → ℕ → Type 0
IsLessSix new word a b c d e f = (t : ℕ) → t < 64 → (bit_at new t == 1) ≡ ((bit_at word t == 1) && not ((bit_at a t == 1) || ((bit_at b t == 1) || ((bit_at c t == 1) || ((bit_at d t == 1) || ((bit_at e t == 1) || (bit_at f t == 1)))))))

-- the number j is both in the row of `words` that begins at word `at` and in the row of `rows` that begins at word `from`
abbrev pub in_both : List ℕ → ℕ → List ℕ → ℕ → ℕ → Bool
in_both words at rows from j = has_bit words (64 * at + j) && has_bit rows (64 * from + j)

-- none of the numbers from `low` on and below `high` passes the test
abbrev pub NoneIn : (ℕ → Bool) → ℕ → ℕ → Type 0
NoneIn f low high = (x : ℕ) → low ≤ x → x < high → f x ≡ false

-- k is the first number from `low` on and below `high` that passes the test
pub record FirstIn (f : ℕ → Bool) (low high k : ℕ) : Type 0 where
  pub least : low ≤ k
  pub most : k < high
  pub is : f k ≡ true
  pub before : NoneIn f low k
