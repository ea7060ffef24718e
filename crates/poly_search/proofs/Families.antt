-- A search for the whole family: what is found is the family.
use Rattle.std.proofs.Common.{◌≡◌, ℕ, ◌<◌, ◌≤◌, ◌+◌, Bool, true, false, ◌&&◌, List, [], ◌∷◌, ◌++◌, refl, sym, ap, ◌∙◌, subst, arith, length, Vec, Global}
use Rattle.std.proofs.lemmas.List.{map-append}
use Rattle.std.proofs.lemmas.Bool.{false_from_ne_true, both_ways}
use Rattle.poly_atom.specs.declared.atom.Atom.{Atom}
use Rattle.poly_tiling.specs.Lists.{one, tally, same_list}
use Rattle.poly_tiling.specs.Puzzle.{View, is_tiling}
use Rattle.poly_atom.specs.Atoms.{meets_all, in_family}
use Rattle.poly_tiling.proofs.Lists.{all_in, tally_none, tally_append}
use Rattle.poly_tiling.proofs.Ascending.{same_list_is}
use Rattle.poly_report.specs.Gather.{lists}
use Rattle.poly_search.specs.Sweeps.{weights, times, all_tilings, Swept, IsLighter}
use Rattle.poly_search.specs.Whole.{SharedOut, IsFamily}
use Rattle.poly_search.proofs.Swept.{weights_append}

pub shared_first : (v : View) (A : List Atom) → SharedOut v A [] (A ∷ [])
shared_first v A T t = omega arith

all_none : (v : View) (T : List ℕ) (found : List (List ℕ)) → all_tilings v found → is_tiling v T ≡ false → tally (λ U. same_list U T) found ≡ 0
all_none v T found h n = tally_none (λ U. same_list U T) found (λ U k. false_from_ne_true (same_list U T) (λ e. both_ways (is_tiling v T) n (subst (λ x. is_tiling v x ≡ true) (same_list_is U T e) (all_in (λ U. is_tiling v U) found h U k))))

most_at : (v : View) (A : List Atom) (T : List ℕ) (found : List (List ℕ)) (n : ℕ) (b : Bool) → is_tiling v T ≡ b → all_tilings v found → (is_tiling v T ≡ true → tally (λ U. same_list U T) found + n ≡ one (meets_all v T A)) →
    tally (λ U. same_list U T) found ≤ one (b && meets_all v T A)
most_at v A T found n true e h f = let a = f e in omega arith
most_at v A T found n false e h f = let a = all_none v T found h e in omega arith

pub at_most : (v : View) (A : List Atom) (found : List (List ℕ)) (rests : List (List Atom)) → SharedOut v A found rests → all_tilings v found → (T : List ℕ) → tally (λ U. same_list U T) found ≤ one (in_family v A T)
at_most v A found rests s h T = most_at v A T found (tally (λ B. meets_all v T B) rests) _ refl h (s T)

same_at : (v : View) (A : List Atom) (T : List ℕ) (found : List (List ℕ)) (b : Bool) → is_tiling v T ≡ b → all_tilings v found → (is_tiling v T ≡ true → tally (λ U. same_list U T) found + 0 ≡ one (meets_all v T A)) →
    tally (λ U. same_list U T) found ≡ one (b && meets_all v T A)
same_at v A T found true e h f = let a = f e in omega arith
same_at v A T found false e h f = all_none v T found h e

pub whole_family : (v : View) (A : List Atom) (found : List (List ℕ)) → SharedOut v A found [] → all_tilings v found → IsFamily v A found
whole_family v A found s h T = same_at v A T found _ refl h (s T)

-- a sweep of one of the families that are left keeps the whole family shared out
pub shared_next : (v : View) (A B : List Atom) (found found' : List (List ℕ)) (all rests rests' : List (List Atom)) → all ≡ rests ++ B ∷ [] → SharedOut v A found all → Swept v B found found' rests rests' → SharedOut v A found' rests'
shared_next v A B found found' all rests rests' e s k T i = omega (arith, k.shared T i, s T i, ap (λ x. times v T found x) e, tally_append (λ C. meets_all v T C) rests (B ∷ []))

pub weighs_less : (v : View) (B : List Atom) (all rests rests' : List (List Atom)) → all ≡ rests ++ B ∷ [] → IsLighter v B rests rests' → weights v rests' < weights v all
weighs_less v B all rests rests' e h = omega (arith, ap (weights v) e, weights_append v rests (B ∷ []))

-- a list of vectors with one more at its end, as a list of lists
pub last_rest : (xs ys : List (Vec Atom Global)) (x : Vec Atom Global) (B : List Atom) → xs ≡ ys ++ x ∷ [] → B ≡ x.items → lists xs ≡ lists ys ++ B ∷ []
last_rest xs ys x B e b = ap lists e ∙ map-append (λ v. v.items) ys (x ∷ []) ∙ ap (λ z. lists ys ++ z ∷ []) (sym b)

pub none_left : (xs : List (Vec Atom Global)) → length xs ≡ 0 → lists xs ≡ []
none_left [] h = refl
none_left (x ∷ xs) h = absurd (omega arith)
