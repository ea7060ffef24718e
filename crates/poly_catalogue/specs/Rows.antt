-- Rows of numbers, read by row and by position in the row.
use Rattle.std.specs.Prelude.{List, None, Option, [], cond, nat_le, nat_lt, slice_get, slice_index_or, ℕ, ◌&&◌, ◌||◌, ◌==◌, ◌≡◌}

-- the row at an index; empty if the index is past the end
abbrev pub row : List (List ℕ) → ℕ → List ℕ
row rows i = slice_index_or rows i []

-- the number at a position of a row
abbrev pub at : List (List ℕ) → ℕ → ℕ → Option ℕ
at rows i k = slice_get (row rows i) k

-- the same rows, except at one position
abbrev pub but : (ℕ → ℕ → Option ℕ) → ℕ → ℕ → Option ℕ → ℕ → ℕ → Option ℕ
but f i k o a b = cond (a == i && b == k) o (f a b)

-- the new rows are the old ones, except at one position
abbrev pub Puts : List (List ℕ) → ℕ → ℕ → Option ℕ → List (List ℕ) → Type 0
Puts old i k o new = (a b : ℕ) → at new a b ≡ but (at old) i k o a b

-- row i keeps only its positions from `first` up to, but not including, `end`
abbrev pub span : (ℕ → ℕ → Option ℕ) → ℕ → ℕ → ℕ → ℕ → ℕ → Option ℕ
span f i first end a b = cond (a == i && (nat_lt b first || nat_le end b)) None (f a b)

-- the first n numbers of one row have moved to another row, which has nothing else
abbrev pub half : (ℕ → ℕ → Option ℕ) → ℕ → ℕ → ℕ → ℕ → ℕ → Option ℕ
half f from to n a b = cond (a == to) (cond (nat_lt b n) (f from b) None) (cond (a == from && nat_lt b n) None (f a b))

-- one row is copied over another
abbrev pub over : (ℕ → ℕ → Option ℕ) → ℕ → ℕ → ℕ → ℕ → Option ℕ
over f from to a b = cond (a == to) (f from b) (f a b)

-- one row has replaced another, and its old index is empty
abbrev pub moved : (ℕ → ℕ → Option ℕ) → ℕ → ℕ → ℕ → ℕ → Option ℕ
moved f from to a b = cond (a == to) (f from b) (cond (a == from) None (f a b))
