-- The base of a list of atoms: each tiling of the family has all placements of the base.
use Rattle.std.proofs.Common.{Bool, List, [], ap, inl, inr, refl, subst, sym, true, ℕ, ◌∷◌, ◌≡◌, ◌≤◌, ◌⊎◌}
use Rattle.std.proofs.lemmas.Bool.{both_ways, eqb-true, not-true, true≢false}
use Rattle.poly_tiling.specs.Lists.{ascending, mem, put_all, tally}
use Rattle.poly_tiling.specs.Puzzle.{View}
use Rattle.poly_tiling.proofs.Lists.{In, all_in, in_mem, mem_in}
use Rattle.poly_tiling.proofs.Ascending.{in_put_all_left, in_put_all_right, put_all_in, put_all_up}
use Rattle.poly_tiling.proofs.Contained.{contains_in, in_contains}
use Rattle.poly_tiling.proofs.Counts.{ascending_distinct, tally_within}
use Rattle.poly_tiling.proofs.Tilings.{IsTiling}
use Rattle.poly_atom.specs.declared.atom.Atom.{Atom}
use Rattle.poly_atom.specs.declared.atom.Atom.TheVariants.{AtLeast, AtMost, Has, Lacks}
use Rattle.poly_atom.specs.Atoms.{meets, meets_all}
use Rattle.poly_atom.specs.Hopeless.{IsBaseOf, asked, base, lacks}

pub in_asked : (A : List Atom) (p : ℕ) → In (Has p) A → In p (asked A)
in_asked [] p i = absurd i
in_asked (Has q ∷ A) p (inl e) = inl cc
in_asked (Has q ∷ A) p (inr i) = inr (in_asked A p i)
in_asked (Lacks q ∷ A) p (inl e) = cc
in_asked (Lacks q ∷ A) p (inr i) = in_asked A p i
in_asked (AtLeast j n ∷ A) p (inl e) = cc
in_asked (AtLeast j n ∷ A) p (inr i) = in_asked A p i
in_asked (AtMost j n ∷ A) p (inl e) = cc
in_asked (AtMost j n ∷ A) p (inr i) = in_asked A p i

pub asked_in : (A : List Atom) (p : ℕ) → In p (asked A) → In (Has p) A
asked_in [] p i = absurd i
asked_in (Has q ∷ A) p (inl e) = inl (ap Has e)
asked_in (Has q ∷ A) p (inr i) = inr (asked_in A p i)
asked_in (Lacks q ∷ A) p i = inr (asked_in A p i)
asked_in (AtLeast j n ∷ A) p i = inr (asked_in A p i)
asked_in (AtMost j n ∷ A) p i = inr (asked_in A p i)

pub base_up : (v : View) (A : List Atom) → ascending (base v A) ≡ true
base_up v A = put_all_up (asked A) (put_all v.pins []) (put_all_up v.pins [] refl)

pub base_in : (v : View) (A : List Atom) (p : ℕ) → In p (base v A) → In (Has p) A ⊎ In p v.pins
base_in v A p i = elim (put_all_in (asked A) (put_all v.pins []) p i)
    [ inl j ↦ inl (asked_in A p j) | inr j ↦ elim (put_all_in v.pins [] p j) [ inl k ↦ inr k | inr k ↦ absurd k ] ]

pub in_base_has : (v : View) (A : List Atom) (p : ℕ) → In (Has p) A → In p (base v A)
in_base_has v A p i = in_put_all_left (asked A) (put_all v.pins []) p (in_asked A p i)

pub in_base_pin : (v : View) (A : List Atom) (p : ℕ) → In p v.pins → In p (base v A)
in_base_pin v A p i = in_put_all_right (asked A) (put_all v.pins []) p (in_put_all_left v.pins [] p i)

pub base_is_set : (v : View) (A : List Atom) → IsBaseOf v A (base v A)
base_is_set v A = record {
  members = λ p. (
    λ h. elim (base_in v A p (contains_in (base v A) p h)) [ inl i ↦ inl (in_contains A (Has p) i) | inr i ↦ inr (in_contains v.pins p i) ],
    λ h. in_contains (base v A) p (elim h [ inl c ↦ in_base_has v A p (contains_in A (Has p) c) | inr c ↦ in_base_pin v A p (contains_in v.pins p c) ]),
  );
  up = base_up v A;
  once = ascending_distinct (base v A) (base_up v A);
}

pub atom_met : (v : View) (T : List ℕ) (A : List Atom) → meets_all v T A ≡ true → (a : Atom) → In a A → meets v T a ≡ true
atom_met v T A h a i = all_in (λ b. meets v T b) A h a i

-- each tiling of the family has every member of the base
pub base_within : (v : View) (T : List ℕ) (A : List Atom) → IsTiling v T → meets_all v T A ≡ true → (p : ℕ) → In p (base v A) → In p T
base_within v T A t m p i = elim (base_in v A p i)
    [ inl j ↦ mem_in T p (atom_met v T A m (Has p) j) | inr j ↦ t.pinned p j ]

pub not_lacked : (v : View) (T : List ℕ) (p : ℕ) (a : Atom) → meets v T a ≡ true → lacks a p ≡ true → In p T → ⊥
not_lacked v T p (Has q) m l i = true≢false (sym l)
not_lacked v T p (Lacks q) m l i = both_ways (mem T q) (not-true _ m) (in_mem T q (subst (λ z. In z T) (sym (eqb-true q p l)) i))
not_lacked v T p (AtLeast j n) m l i = true≢false (sym l)
not_lacked v T p (AtMost j n) m l i = true≢false (sym l)

-- no more members of the base pass a test than members of a tiling of the family
pub base_fewer : (v : View) (T : List ℕ) (A : List Atom) → IsTiling v T → meets_all v T A ≡ true → (f : ℕ → Bool) → tally f (base v A) ≤ tally f T
base_fewer v T A t m f = tally_within f f (base v A) T (ascending_distinct (base v A) (base_up v A)) (λ p i e. (base_within v T A t m p i, e))
