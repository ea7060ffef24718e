-- What is left of a list, and what comes first in it, while two lists in the same order are read side by side.
use Rattle.std.specs.Prelude.{Bool, List, None, Option, Some, [], cond, ◌∷◌}

-- the rest of a list from its first element that does not pass
abbrev pub behind : {X : Type 0} → (X → Bool) → List X → List X
behind f [] = []
behind f (x ∷ xs) = cond (f x) (behind f xs) (x ∷ xs)

-- the list without its first element, if that passes
abbrev pub past : {X : Type 0} → (X → Bool) → List X → List X
past f [] = []
past f (x ∷ xs) = cond (f x) xs (x ∷ xs)

-- the first element, if it passes
abbrev pub front : {X : Type 0} → (X → Bool) → List X → Option X
front f [] = None
front f (x ∷ xs) = cond (f x) (Some x) None
