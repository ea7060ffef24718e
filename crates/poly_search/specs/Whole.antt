-- A search for the whole family.
use Rattle.std.specs.Prelude.{◌≡◌, ℕ, ◌<◌, ◌≤◌, length, true, List}
use Rattle.poly_atom.specs.declared.atom.Atom.{Atom}
use Rattle.poly_tiling.specs.Lists.{one, tally, same_list}
use Rattle.poly_tiling.specs.Puzzle.{View, is_tiling}
use Rattle.poly_atom.specs.Atoms.{meets_all, in_family}
use Rattle.poly_search.specs.Sweeps.{times}

-- each tiling of the family is either found exactly once or in exactly one of the families that are left; no other tiling of
-- the view is found or in one of these families
abbrev pub SharedOut : View → List Atom → List (List ℕ) → List (List Atom) → Type 0
SharedOut v A found rests = (T : List ℕ) → is_tiling v T ≡ true → times v T found rests ≡ one (meets_all v T A)

-- the found tilings are the family, each once
abbrev pub IsFamily : View → List Atom → List (List ℕ) → Type 0
IsFamily v A found = (T : List ℕ) → tally (λ U. same_list U T) found ≡ one (in_family v A T)

-- the family has more members than the limit
abbrev pub HasMore : View → List Atom → ℕ → Type 0
HasMore v A limit = (found : List (List ℕ)) × ((T : List ℕ) → tally (λ U. same_list U T) found ≤ one (in_family v A T)) × (limit < length found)
