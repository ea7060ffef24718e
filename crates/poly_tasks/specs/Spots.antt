-- Where a list has Lacks of some placements.
use Rattle.std.specs.Prelude.{Bool, List, [], cond, nat_le, nat_lt, ℕ, ◌&&◌, ◌+◌, ◌∷◌, ◌≡◌}
use Rattle.poly_atom.specs.declared.atom.Atom.{Atom}
use Rattle.poly_atom.specs.Logs.{flat}
use Rattle.poly_tasks.specs.declared.spots.Spot.{Spot}
use Rattle.poly_tasks.specs.declared.spots.Spots.{Spots}
use Rattle.poly_tasks.specs.Judged.{is_harmful}

-- each Lacks of one of the placements, with its index, if the first atom has the index i
abbrev pub spots_from : List ℕ → ℕ → List Atom → List Spot
spots_from ps i [] = []
spots_from ps i (a ∷ A) = cond (is_harmful ps a) (record { at = i; atom = a } ∷ spots_from ps (i + 1) A) (spots_from ps (i + 1) A)

abbrev pub is_within : ℕ → ℕ → ℕ → Bool
is_within start end j = nat_le start j && nat_lt j end

-- these are the guards of the log that lack one of the placements
abbrev pub IsSpots : List (List Atom) → Spots → Type 0
IsSpots log s = s.found.items ≡ spots_from s.placements.items 0 (flat log)
