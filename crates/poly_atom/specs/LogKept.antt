-- How a log of guards is kept: one list of all guards, and the index where each change's guards start.
use Rattle.std.specs.Prelude.{List, [], drop, length, take, ℕ, ◌+◌, ◌-◌, ◌∷◌, ◌≡◌}
use Rattle.poly_atom.specs.declared.atom.Atom.{Atom}
use Rattle.poly_atom.specs.Atoms.{AllSmall}
use Rattle.poly_atom.specs.Logs.{flat}

-- where a part ends, by the starts of the later parts: where the next part starts, or at n, the end of the list, if it is last
abbrev pub end_of : List ℕ → ℕ → ℕ
end_of [] n = n
end_of (s ∷ ss) n = s

-- the parts of a list that start at these indices
abbrev pub rows : List ℕ → List Atom → List (List Atom)
rows [] all = []
rows (s ∷ ss) all = take (end_of ss (length all) - s) (drop s all) ∷ rows ss all

-- where each list starts, if the lists follow one another after this many elements
abbrev pub offsets : ℕ → List (List Atom) → List ℕ
offsets n [] = []
offsets n (g ∷ gs) = n ∷ offsets (n + length g) gs

-- the starts are where the parts start, the parts together are the whole list, and each atom can be negated
pub record IsKept (starts : List ℕ) (all : List Atom) : Type 0 where
  pub starts_are : starts ≡ offsets 0 (rows starts all)
  pub all_are : all ≡ flat (rows starts all)
  pub small : AllSmall all
