-- Atoms, and the family of a list of atoms.
use Rattle.std.specs.List.{list_all}
use Rattle.std.specs.Prelude.{Bool, List, [], ◌∷◌, ◌<◌, nat_le, nat_lt, not, true, ℕ, ◌&&◌, ◌+◌, ◌-◌}
use Rattle.poly_atom.specs.declared.atom.Atom.{Atom}
use Rattle.poly_atom.specs.declared.atom.Atom.TheVariants.{Has, Lacks, AtLeast, AtMost}
use Rattle.poly_tiling.specs.Lists.{mem}
use Rattle.poly_tiling.specs.Puzzle.{View, count, is_tiling}

abbrev pub negated : Atom → Atom
negated (Has p) = Lacks p
negated (Lacks p) = Has p
negated (AtLeast i n) = AtMost i (n - 1)
negated (AtMost i n) = AtLeast i (n + 1)

-- the atom isn't an AtLeast with 0
abbrev pub proper : Atom → Bool
proper (Has p) = true
proper (Lacks p) = true
proper (AtLeast i n) = nat_lt 0 n
proper (AtMost i n) = true

abbrev pub meets : View → List ℕ → Atom → Bool
meets v T (Has p) = mem T p
meets v T (Lacks p) = not (mem T p)
meets v T (AtLeast i n) = nat_le n (count v T i)
meets v T (AtMost i n) = nat_le (count v T i) n

abbrev pub meets_all : View → List ℕ → List Atom → Bool
meets_all v T A = list_all (λ a. meets v T a) A

-- T belongs to the family of A: it is a tiling that meets all atoms of A
abbrev pub in_family : View → List Atom → List ℕ → Bool
in_family v A T = is_tiling v T && meets_all v T A

-- the atom can be negated: the number of its negation is from 0 to 255
abbrev pub IsSmall : Atom → Type 0
IsSmall (Has p) = Unit {0}
IsSmall (Lacks p) = Unit {0}
IsSmall (AtLeast i n) = 0 < n
IsSmall (AtMost i n) = n < 255

abbrev pub AllSmall : List Atom → Type 0
AllSmall [] = Unit {0}
AllSmall (a ∷ A) = IsSmall a × AllSmall A
