-- Sums of lists, index by index.
use Rattle.std.specs.Prelude.{ℕ, ◌+◌, List, [], ◌∷◌}

-- adds to each number of the first list the number at the same index in the second, if there is one
abbrev pub added : List ℕ → List ℕ → List ℕ
added [] more = []
added (n ∷ ns) [] = n ∷ ns
added (n ∷ ns) (k ∷ more) = (n + k) ∷ added ns more
