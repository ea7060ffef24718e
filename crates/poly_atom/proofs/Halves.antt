-- Binary search for an element of a sorted list.
use Rattle.std.proofs.Common.{Bool, List, [], ap, arith, false, get_or, inl, inr, length, refl, subst, suc, sym, true, zero, ℕ, ◌+◌, ◌<◌, ◌∙◌, ◌∷◌, ◌≡◌, ◌≤◌}
use Rattle.std.proofs.lemmas.Bool.{and_parts, both_ways, cases_lt}
use Rattle.std.specs.List.{list_all, list_any}
use Rattle.poly_tiling.proofs.Lists.{In, all_in, any_none}
use Rattle.poly_atom.proofs.Merge.{IsOrder, sorted}

pub in_get : {X : Type 0} (xs : List X) (j : ℕ) (d : X) → j < length xs → In (get_or xs j d) xs
in_get [] j d h = absurd (omega arith)
in_get (x ∷ xs) zero d h = inl refl
in_get (x ∷ xs) (suc j) d h = inr (in_get xs j d (omega arith))

in_place : {X : Type 0} (xs : List X) (x d : X) → In x xs → (k : ℕ) × (k < length xs) × (get_or xs k d ≡ x)
in_place [] x d i = absurd i
in_place (y ∷ xs) x d (inl e) = (0, omega arith, e)
in_place (y ∷ xs) x d (inr i) = let r = in_place xs x d i in (suc r.0, omega (arith, r.1), r.2)

sorted_places : {X : Type 0} (lt : X → X → Bool) (xs : List X) (i j : ℕ) (d : X) → sorted lt xs ≡ true → i < j → j < length xs → lt (get_or xs i d) (get_or xs j d) ≡ true
sorted_places lt [] i j d h l m = absurd (omega arith)
sorted_places lt (x ∷ xs) i zero d h l m = absurd (omega arith)
sorted_places lt (x ∷ xs) zero (suc j) d h l m = all_in (λ y. lt x y) xs (and_parts (list_all (λ y. lt x y) xs) (sorted lt xs) h).0 (get_or xs j d) (in_get xs j d (omega arith))
sorted_places lt (x ∷ xs) (suc i) (suc j) d h l m = sorted_places lt xs i j d (and_parts (list_all (λ y. lt x y) xs) (sorted lt xs) h).1 (omega arith) (omega arith)

-- each element equal to x has an index that is at least `low` and below `high`
pub record IsWithin {X : Type 0} (eq : X → X → Bool) (xs : List X) (x : X) (low high : ℕ) : Type 0 where
  pub at : (k : ℕ) → k < length xs → eq (get_or xs k x) x ≡ true → (low ≤ k) × (k < high)

module _ {X : Type 0} (lt eq : X → X → Bool) (o : IsOrder lt eq) (xs : List X) (up : sorted lt xs ≡ true) where
  pub within_low : (x here : X) (low high middle : ℕ) → IsWithin eq xs x low high → middle < length xs → here ≡ get_or xs middle x → lt here x ≡ true → IsWithin eq xs x (middle + 1) high
  within_low x here low high middle w inside is below = record {
    at = λ k h e.
        let b = w.at k h e in
        let above : lt (get_or xs middle x) x ≡ true = ap (λ y. lt y x) (sym is) ∙ below in
        elim (cases_lt middle k) [
          | inl l ↦ (omega arith, b.1)
          | inr g ↦ elim (cases_lt k middle) [
            | inl l ↦ absurd (o.apart (get_or xs k x) x (o.trans (get_or xs k x) (get_or xs middle x) x (sorted_places lt xs k middle x up l inside) above) e)
            | inr m ↦ let same : middle ≡ k = omega arith in absurd (o.apart (get_or xs k x) x (subst (λ i. lt (get_or xs i x) x ≡ true) same above) e)
          ]
        ];
  }

  pub within_high : (x here : X) (low high middle : ℕ) → IsWithin eq xs x low high → middle < length xs → here ≡ get_or xs middle x → eq here x ≡ false → lt here x ≡ false → IsWithin eq xs x low middle
  within_high x here low high middle w inside is other notbelow = record {
    at = λ k h e.
        let b = w.at k h e in
        let above : lt (get_or xs middle x) x ≡ false = ap (λ y. lt y x) (sym is) ∙ notbelow in
        let apart : eq (get_or xs middle x) x ≡ false = ap (λ y. eq y x) (sym is) ∙ other in
        elim (cases_lt k middle) [
          | inl l ↦ (b.0, l)
          | inr g ↦ elim (cases_lt middle k) [
            | inl l ↦ absurd (both_ways (lt (get_or xs middle x) x) above (o.along (get_or xs middle x) (get_or xs k x) x (sorted_places lt xs middle k x up l h) e))
            | inr m ↦ let same : k ≡ middle = omega arith in absurd (both_ways (eq (get_or xs middle x) x) apart (subst (λ i. eq (get_or xs i x) x ≡ true) same e))
          ]
        ];
  }

-- if no index is left between `low` and `high`, no element is equal to x
pub none_within : {X : Type 0} (eq : X → X → Bool) (xs : List X) (x : X) (low high : ℕ) → IsWithin eq xs x low high → high ≤ low → list_any (λ y. eq y x) xs ≡ false
none_within eq xs x low high w h = any_none (λ y. eq y x) xs (λ y i e.
    let p = in_place xs y x i in
    let b = w.at p.0 p.1 (ap (λ z. eq z x) p.2 ∙ e) in
    omega (arith, b.0, b.1))
