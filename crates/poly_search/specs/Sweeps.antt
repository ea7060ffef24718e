-- What a sweep over a family adds to what is found and what is left.
use Rattle.std.specs.Prelude.{◌≡◌, ℕ, ◌+◌, ◌^◌, ◌<◌, ◌≤◌, true, List, [], ◌∷◌}
use Rattle.std.specs.List.{list_all}
use Rattle.poly_atom.specs.declared.atom.Atom.{Atom}
use Rattle.poly_tiling.specs.Lists.{one, tally, same_list}
use Rattle.poly_tiling.specs.Puzzle.{View, is_tiling}
use Rattle.poly_atom.specs.Atoms.{meets_all}
use Rattle.poly_frame.specs.Walk.{open_count}

-- How much is left to do. A family weighs more than two families together if both have fewer open placements.
abbrev pub weights : View → List (List Atom) → ℕ
weights v [] = 0
weights v (B ∷ Bs) = 3 ^ open_count v B + weights v Bs

-- how often a tiling is found, plus the number of remaining families that it is in
abbrev pub times : View → List ℕ → List (List ℕ) → List (List Atom) → ℕ
times v T found rests = tally (λ U. same_list U T) found + tally (λ B. meets_all v T B) rests

abbrev pub all_tilings : View → List (List ℕ) → Type 0
all_tilings v found = list_all (λ U. is_tiling v U) found ≡ true

-- A sweep of the family of `A`: `times` rose by one for each tiling in this family, and stayed the same for each other
-- tiling. Nothing but tilings was found. What is left gained at most the weight of the family.
pub record Swept (v : View) (A : List Atom) (found found' : List (List ℕ)) (rests rests' : List (List Atom)) : Type 0 where
  pub shared : (T : List ℕ) → is_tiling v T ≡ true → times v T found' rests' ≡ times v T found rests + one (meets_all v T A)
  pub only : all_tilings v found → all_tilings v found'
  pub less : weights v rests' ≤ weights v rests + 3 ^ open_count v A

-- what is left gained less than the weight of the family of `A`
abbrev pub IsLighter : View → List Atom → List (List Atom) → List (List Atom) → Type 0
IsLighter v A rests rests' = weights v rests' < weights v rests + 3 ^ open_count v A

-- What a sweep has added so far: it has swept the family of `A` except for that of `B`, which is still to be swept.
pub record Partly (v : View) (A B : List Atom) (found found' : List (List ℕ)) (rests rests' : List (List Atom)) : Type 0 where
  pub shared : (T : List ℕ) → is_tiling v T ≡ true → times v T found' rests' + one (meets_all v T B) ≡ times v T found rests + one (meets_all v T A)
  pub only : all_tilings v found → all_tilings v found'
  pub less : weights v rests' + 3 ^ open_count v B ≤ weights v rests + 3 ^ open_count v A
