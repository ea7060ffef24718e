-- What is proved of atoms.
use Rattle.std.specs.List.{list_all}
use Rattle.std.specs.Prelude.{List, [], false, not, true, ℕ, ◌++◌, ◌+◌, ◌∷◌, ◌≡◌}
use Rattle.poly_tiling.specs.Lists.{one, tally}
use Rattle.poly_tiling.specs.Puzzle.{View, is_tiling}
use Rattle.poly_tiling.specs.Names.{Grown, Names, WellNamed}
use Rattle.poly_atom.specs.declared.atom.Atom.{Atom}
use Rattle.poly_atom.specs.Atoms.{in_family, meets, meets_all, negated, proper}
use Rattle.poly_atom.specs.Guards.{guards}
use Rattle.poly_atom.specs.Stairs.{stairs}
use Rattle.poly_atom.specs.Hopeless.{IsBaseOf, base, hopeless}
use Rattle.poly_atom.specs.Logs.{without_last}

-- If no atom of a list is an AtLeast with 0, a set that does not meet all atoms of the list meets exactly one of its stairs,
-- and a set that meets all of them meets no stair. No guard of a change is an AtLeast with 0.
abbrev pub StairsShareOut : Type 0
StairsShareOut = (v : View) (T : List ℕ) (g : List Atom) → list_all proper g ≡ true →
    one (meets_all v T g) + tally (λ A. meets_all v T A) (stairs g) ≡ 1

-- The base of a list of atoms has exactly the placements that a Has atom of the list names and the pins, each once, in ascending
-- order.
abbrev pub BasesAreSets : Type 0
BasesAreSets = (v : View) (A : List Atom) → IsBaseOf v A (base v A)

-- A hopeless list has an empty family.
abbrev pub HopelessIsEmpty : Type 0
HopelessIsEmpty = (v : View) (A : List Atom) (T : List ℕ) → hopeless v A ≡ true → in_family v A T ≡ false

-- If each number of the old view names the same placement in the new one, a tiling of the new design is a tiling of the old
-- one exactly if it meets the guards.
abbrev pub GuardsTell : Type 0
GuardsTell = (old new : View) (T : List ℕ) → WellNamed old → Names old new → is_tiling new T ≡ true →
    is_tiling old T ≡ meets_all new T (guards old new)

-- Each stair of a change's guards is hopeless in the design before the change.
abbrev pub StairsWereHopeless : Type 0
StairsWereHopeless = (old new : View) → list_all (λ A. hopeless old A) (stairs (guards old new)) ≡ true

-- A hopeless list stays hopeless if atoms are added and new numbers are assigned.
abbrev pub HopelessStays : Type 0
HopelessStays = (v w : View) (A B : List Atom) → Grown v w → hopeless v A ≡ true → hopeless w (A ++ B) ≡ true

-- A change that leaves the design as it was has no guards.
abbrev pub SameHasNoGuards : Type 0
SameHasNoGuards = (v w : View) → Grown v w → guards v w ≡ []

-- Assigning new numbers does not change whether a tiling meets a list of atoms.
abbrev pub AnswersMayGrow : Type 0
AnswersMayGrow = (v w : View) (T : List ℕ) (A : List Atom) → WellNamed v → Grown v w → is_tiling v T ≡ true → meets_all w T A ≡ meets_all v T A

-- The negation of an atom's negation is the atom itself, unless the atom is an AtLeast with 0.
abbrev pub NegationIsUndone : Type 0
NegationIsUndone = (a : Atom) → proper a ≡ true → negated (negated a) ≡ a

-- A set meets the negation of an atom exactly if it does not meet the atom, unless the atom is an AtLeast with 0.
abbrev pub NegationIsOpposite : Type 0
NegationIsOpposite = (v : View) (T : List ℕ) (a : Atom) → proper a ≡ true → meets v T (negated a) ≡ not (meets v T a)

-- Assigning new numbers does not change which tilings belong to a family.
abbrev pub FamiliesMayGrow : Type 0
FamiliesMayGrow = (v w : View) (A : List Atom) (T : List ℕ) → WellNamed v → Grown v w → in_family w A T ≡ in_family v A T

-- Assigning new numbers does not change which lists are hopeless.
abbrev pub HopelessMayGrow : Type 0
HopelessMayGrow = (v w : View) (A : List Atom) → WellNamed v → Grown v w → hopeless w A ≡ hopeless v A

-- Assigning new numbers in either design changes no guard.
abbrev pub GuardsMayGrow : Type 0
GuardsMayGrow = (old more new most : View) → Grown old more → Grown new most → guards more most ≡ guards old new

-- Removing the last change's guards undoes adding them.
abbrev pub TakenBackIsUndone : Type 0
TakenBackIsUndone = (log : List (List Atom)) (g : List Atom) → without_last (log ++ g ∷ []) ≡ log
