-- Stairs by their index, and stairs of a log that grows.
use Rattle.std.proofs.Common.{◌-◌, ◌≡◌, List, [], ◌∷◌, ◌++◌, sym, ap, ◌∙◌, append_assoc, arith, length, ℕ, ◌<◌, zero, suc, slice_index_or, get_or, take, refl, subst}
use Rattle.std.proofs.lemmas.List.{append-nil, get_or_append_left, length_push, take_at}
use Rattle.poly_atom.specs.declared.atom.Atom.{Atom}
use Rattle.poly_atom.specs.Atoms.{negated, IsSmall, AllSmall}
use Rattle.poly_atom.specs.Stairs.{stairs, stairs_behind}
use Rattle.poly_atom.specs.declared.stair.Stair.{Stair}
use Rattle.poly_atom.specs.Laws.{TakenBackIsUndone}
use Rattle.poly_atom.specs.Logs.{IsStairOf, stair_of}

pub small_at : (A : List Atom) (i : ℕ) (d : Atom) → AllSmall A → i < length A → IsSmall (slice_index_or A i d)
small_at [] i d s h = absurd (omega (arith, h))
small_at (a ∷ A) zero d s h = s.0
small_at (a ∷ A) (suc i) d s h = small_at A i d s.1 (omega (arith, h))

behind_at : (before gs : List Atom) (j : ℕ) (d : Atom) → j < length gs → get_or (stairs_behind before gs) j [] ≡ (before ++ take j gs) ++ negated (get_or gs j d) ∷ []
behind_at before [] j d h = absurd (omega (arith, h))
behind_at before (g ∷ gs) zero d h = ap (λ b. b ++ negated g ∷ []) (sym (append-nil before))
behind_at before (g ∷ gs) (suc j) d h =
    behind_at (before ++ g ∷ []) gs j d (omega (arith, h)) ∙ ap (λ b. b ++ negated (get_or gs j d) ∷ []) (append_assoc before (g ∷ []) (take j gs))

-- the stair at an index is the atoms before the index and the negation of the atom there
pub stairs_at : (gs : List Atom) (j : ℕ) (d : Atom) → j < length gs → get_or (stairs gs) j [] ≡ take j gs ++ negated (get_or gs j d) ∷ []
stairs_at gs j d h = behind_at [] gs j d h

length-behind : (before gs : List Atom) → length (stairs_behind before gs) ≡ length gs
length-behind before [] = refl
length-behind before (g ∷ gs) = ap suc (length-behind (before ++ g ∷ []) gs)

-- there are as many stairs as atoms
pub length-stairs : (gs : List Atom) → length (stairs gs) ≡ length gs
length-stairs gs = length-behind [] gs

-- a later change does not alter the stairs of an earlier one
pub stair_stays : (log : List (List Atom)) (g : List Atom) (s : Stair) → s.edition < length log → stair_of (log ++ g ∷ []) s ≡ stair_of log s
stair_stays log g s h = ap (λ x. get_or (stairs x) s.index []) (get_or_append_left log (g ∷ []) [] s.edition h)

pub is_stair_stays : (log : List (List Atom)) (g : List Atom) (s : Stair) → IsStairOf log s → IsStairOf (log ++ g ∷ []) s
is_stair_stays log g s h = record {
  edition_in = let e = h.edition_in in omega (arith, length_push log g);
  index_in = subst (λ x. s.index < length x) (sym (get_or_append_left log (g ∷ []) [] s.edition h.edition_in)) h.index_in;
}

pub taken_back_is_undone_lem : TakenBackIsUndone
taken_back_is_undone_lem log g = take_at log (g ∷ []) (length (log ++ g ∷ []) - 1) (omega (arith, length_push log g))
