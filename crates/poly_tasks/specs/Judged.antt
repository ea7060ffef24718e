-- Which lists of atoms aren't hopeless after a base.
use Rattle.std.specs.List.{list_all, list_any}
use Rattle.std.specs.Prelude.{Bool, List, [], false, length, map, not, slice_index_or, take, true, ℕ, ◌++◌, ◌<◌, ◌∷◌, ◌≡◌}
use Rattle.poly_tiling.specs.Lists.{mem}
use Rattle.poly_tiling.specs.Puzzle.{View}
use Rattle.poly_atom.specs.declared.atom.Atom.{Atom}
use Rattle.poly_atom.specs.declared.atom.Atom.TheVariants.{AtLeast, AtMost, Has, Lacks}
use Rattle.poly_atom.specs.Atoms.{negated}
use Rattle.poly_atom.specs.Hopeless.{hopeless, lacks}
use Rattle.poly_atom.specs.Logs.{IsStairOf}
use Rattle.poly_atom.specs.Stairs.{stairs}
use Rattle.poly_atom.specs.declared.stair.Stair.{Stair}
use Rattle.poly_lists.specs.Words.{is_other}
use Rattle.poly_tasks.specs.declared.lead.Lead.{Lead}

-- the flags say which of the lists aren't hopeless after the base
abbrev pub AreJudged : View → List Atom → List (List Atom) → List Bool → Type 0
AreJudged w base As fs = fs ≡ map (λ A. not (hopeless w (base ++ A))) As

-- each of the lists whose flag is false is hopeless after the base
abbrev pub AreRuledOut : View → List Atom → List (List Atom) → List Bool → Type 0
AreRuledOut w base As fs = (i : ℕ) → i < length fs → slice_index_or fs i true ≡ false → hopeless w (base ++ slice_index_or As i []) ≡ true

-- each atom is a Lacks
abbrev pub AreLacks : List Atom → Type 0
AreLacks A = list_all (λ a. not (is_other a)) A ≡ true

-- so many of the edition's guards, from the first on, are a Lacks
abbrev pub IsLead : List (List Atom) → Lead → Type 0
IsLead log l = AreLacks (take l.count (slice_index_or log l.edition []))

-- no two of the atoms lack the same placement
abbrev pub LackOnce : List Atom → Type 0
LackOnce A = (i p : ℕ) (d : Atom) → i < length A → slice_index_or A i d ≡ Lacks p → list_any (λ a. lacks a p) (take i A) ≡ false

-- the flag of each guard says whether the base isn't hopeless with any one of the guards before it
pub record AreCalm (w : View) (base g : List Atom) (fs : List Bool) : Type 0 where
  pub long : length fs ≡ length g
  pub each : (i : ℕ) → i < length g → slice_index_or fs i true ≡ not (list_any (λ a. hopeless w (base ++ a ∷ [])) (take i g))

-- each of the first n stairs whose flag is true is hopeless after the base exactly if its last atom alone is so
abbrev pub AreAlone : View → List Atom → List Atom → ℕ → List Bool → Type 0
AreAlone w base g n fs = (i : ℕ) (d : Atom) → i < n → slice_index_or fs i true ≡ true → hopeless w (base ++ slice_index_or (stairs g) i []) ≡ hopeless w (base ++ negated (slice_index_or g i d) ∷ [])

-- the guard that the stair negates is hopeless alone
pub record IsSpoiler (w : View) (log : List (List Atom)) (s : Stair) : Type 0 where
  pub there : IsStairOf log s
  pub spoils : (d : Atom) → hopeless w (slice_index_or (slice_index_or log s.edition []) s.index d ∷ []) ≡ true

-- the placements that the atoms ask for or lack
abbrev pub named : List Atom → List ℕ
named [] = []
named (Has p ∷ A) = p ∷ named A
named (Lacks p ∷ A) = p ∷ named A
named (AtLeast i n ∷ A) = named A
named (AtMost i n ∷ A) = named A

-- the atom is a Lacks of one of the placements
abbrev pub is_harmful : List ℕ → Atom → Bool
is_harmful ps (Has p) = false
is_harmful ps (Lacks p) = mem ps p
is_harmful ps (AtLeast i n) = false
is_harmful ps (AtMost i n) = false

-- the atom asks for a placement
abbrev pub is_has : Atom → Bool
is_has (Has p) = true
is_has (Lacks p) = false
is_has (AtLeast i n) = false
is_has (AtMost i n) = false
