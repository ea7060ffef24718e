-- Numbers that have only one position in a list.
use Rattle.std.proofs.Common.{List, Some, [], ap, arith, cond, eqb, false, inl, inr, refl, slice_get, suc, sym, true, zero, ℕ, ◌∙◌, ◌∷◌, ◌≡◌, ◌≤◌}
use Rattle.std.proofs.lemmas.Bool.{and_from, cases_eq, eq-eqb, ne_eqb}
use Rattle.std.specs.List.{list_all}
use Rattle.poly_tiling.specs.Lists.{distinct, one, tally}
use Rattle.poly_tiling.proofs.Contained.{in_get}
use Rattle.poly_tiling.proofs.Lists.{all_from, tally_none}

-- a number that has only one position in a list is counted at most once
pub once_tally : (xs : List ℕ) (p : ℕ) → ((k l : ℕ) → slice_get xs k ≡ Some p → slice_get xs l ≡ Some p → k ≡ l) → tally (λ q. eqb q p) xs ≤ 1
once_tally [] p h = omega arith
once_tally (y ∷ ys) p h = elim (cases_eq y p) [
  | inl e ↦
      let none = tally_none (λ q. eqb q p) ys (λ x i. ne_eqb x p (λ z.
      let j = in_get ys x i in
      let w : zero ≡ suc j.0 = h zero (suc j.0) (ap Some e) (j.1 ∙ ap Some z) in
      absurd (omega (arith, w)))) in
      omega (arith, none, ap one (eq-eqb y p e))
  | inr n ↦ omega (arith, ap one (ne_eqb y p n), once_tally ys p (λ k l a b. let s : suc k ≡ suc l = h (suc k) (suc l) a b in omega (arith, s)))
]

-- numbers that have only one position each are distinct
pub distinct_from : (xs : List ℕ) → ((i j t : ℕ) → slice_get xs i ≡ Some t → slice_get xs j ≡ Some t → i ≡ j) → distinct xs ≡ true
distinct_from [] h = refl
distinct_from (x ∷ xs) h =
    and_from (list_all (λ y. cond (eqb x y) false true) xs) (distinct xs)
    (all_from (λ y. cond (eqb x y) false true) xs (λ y i. ap (λ b. cond b false true) (ne_eqb x y (λ e.
    let j = in_get xs y i in
    let w : zero ≡ suc j.0 = h zero (suc j.0) x refl (j.1 ∙ ap Some (sym e)) in
    absurd (omega (arith, w))))))
    (distinct_from xs (λ i j t a b. let s : suc i ≡ suc j = h (suc i) (suc j) t a b in omega (arith, s)))
