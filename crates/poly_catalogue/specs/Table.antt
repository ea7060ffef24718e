-- A table: one list that has the numbers of each row, one row after another.
use Rattle.std.specs.Prelude.{List, drop, suc, take, zero, ℕ, [], ◌∷◌}

-- the first n rows of a list, each of w numbers
abbrev pub rows_of : ℕ → ℕ → List ℕ → List (List ℕ)
rows_of w zero cells = []
rows_of w (suc n) cells = take w cells ∷ rows_of w n (drop w cells)
