-- Hopeless lists: the atoms and the view show, without a search, that no tiling meets all of the atoms.
use Rattle.std.specs.List.{Contains, list_any}
use Rattle.std.specs.Prelude.{Bool, List, [], false, nat_lt, not, true, ℕ, ◌&&◌, ◌==◌, ◌||◌, ◌⊎◌, ◌↔◌, ◌∷◌, ◌≡◌}
use Rattle.poly_tiling.specs.Lists.{ascending, distinct, mem, put_all}
use Rattle.poly_tiling.specs.Puzzle.{View, is_piece, conflicts, count, items, least, most, same_item}
use Rattle.poly_atom.specs.declared.atom.Atom.{Atom}
use Rattle.poly_atom.specs.declared.atom.Atom.TheVariants.{AtLeast, AtMost, Has, Lacks}

-- the placements that Has atoms name
abbrev pub asked : List Atom → List ℕ
asked [] = []
asked (Has p ∷ A) = p ∷ asked A
asked (Lacks p ∷ A) = asked A
asked (AtLeast i n ∷ A) = asked A
asked (AtMost i n ∷ A) = asked A

-- the placements that are asked for, and the pins: each tiling of the family has all of them
abbrev pub base : View → List Atom → List ℕ
base v A = put_all (asked A) (put_all v.pins [])

-- the list has the placements that the Has atoms of A name and the pins of the view, and nothing else; each once, in ascending
-- order
pub record IsBaseOf (v : View) (A : List Atom) (list : List ℕ) : Type 0 where
  pub members : (p : ℕ) → Contains list p ↔ (Contains A (Has p) ⊎ Contains v.pins p)
  pub up : ascending list ≡ true
  pub once : distinct list ≡ true

abbrev pub lacks : Atom → ℕ → Bool
lacks (Has q) p = false
lacks (Lacks q) p = q == p
lacks (AtLeast i n) p = false
lacks (AtMost i n) p = false

-- if the atom is in A, it shows that the family of A is empty: it asks for a placement that isn't in the design, that an atom
-- of A lacks, that is in conflict with the base, or whose piece the base covers more often than the piece's most; it lacks a
-- pin; it is an AtLeast above the most of an item of the view; or it is an AtMost below its item's least
abbrev pub bad : View → List Atom → Atom → Bool
bad v A (Has p) =
    not (mem v.live p) || list_any (λ a. lacks a p) A || list_any (λ q. conflicts v p q) (base v A)
    || list_any (λ i. is_piece i && nat_lt (most v i) (count v (base v A) i)) (items v p)
bad v A (Lacks p) = mem v.pins p
bad v A (AtLeast i n) = list_any (λ b. same_item b.item i) v.bounds && nat_lt (most v i) n
bad v A (AtMost i n) = nat_lt n (least v i)

abbrev pub hopeless : View → List Atom → Bool
hopeless v A = list_any (λ a. bad v A a) A

-- both lists ask for the same placements
abbrev pub AskTheSame : List Atom → List Atom → Type 0
AskTheSame D A = (p : ℕ) → mem (asked D) p ≡ mem (asked A) p

-- the atom asks for a placement that the design doesn't have, that is in conflict with the base of D, or whose piece this
-- base covers more often than the piece's most
abbrev pub lost : View → List Atom → Atom → Bool
lost v D (Has p) =
    not (mem v.live p) || list_any (λ q. conflicts v p q) (base v D)
    || list_any (λ i. is_piece i && nat_lt (most v i) (count v (base v D) i)) (items v p)
lost v D (Lacks p) = false
lost v D (AtLeast i n) = false
lost v D (AtMost i n) = false

-- the atom lacks a pin or a placement that D asks for, is an AtLeast above the most of an item of the view, or is an AtMost
-- below its item's least
abbrev pub beyond : View → List Atom → Atom → Bool
beyond v D (Has p) = false
beyond v D (Lacks p) = mem v.pins p || mem (asked D) p
beyond v D (AtLeast i n) = bad v D (AtLeast i n)
beyond v D (AtMost i n) = bad v D (AtMost i n)
