-- Ascending lists: one more number may be inserted, and two ascending lists with the same members are equal.
use Rattle.std.proofs.Common.{Bool, List, [], ap, arith, cond, drop, eqb, false, get_or, inl, inr, length, ltb, refl, subst, suc, sym, true, zero, ℕ, ◌+◌, ◌-◌, ◌<◌, ◌∙◌, ◌∷◌, ◌≡◌, ◌≤◌, ◌⊎◌}
use Rattle.std.proofs.lemmas.List.{at_drop_more}
use Rattle.std.proofs.lemmas.Bool.{and_from, and_parts, eq-eqb, eqb-false, eqb-true, lt-ltb, ltb-false, ltb-true, true≢false}
use Rattle.std.specs.List.{list_all}
use Rattle.poly_tiling.specs.Lists.{ascending, distinct, put, put_all, same_list}
use Rattle.poly_tiling.proofs.Lists.{In, all_from, all_in, same_truth}

put_in_at : (p q : ℕ) (qs : List ℕ) (x : ℕ) → (In x (put p qs) → (p ≡ x) ⊎ In x qs) → (b c : Bool) →
    In x (cond b (q ∷ qs) (cond c (p ∷ (q ∷ qs)) (q ∷ put p qs))) → (p ≡ x) ⊎ In x (q ∷ qs)
put_in_at p q qs x ih true c i = inr i
put_in_at p q qs x ih false true (inl e) = inl e
put_in_at p q qs x ih false true (inr i) = inr i
put_in_at p q qs x ih false false (inl e) = inr (inl e)
put_in_at p q qs x ih false false (inr i) = elim (ih i) [ inl e ↦ inl e | inr j ↦ inr (inr j) ]

pub put_in : (p : ℕ) (qs : List ℕ) (x : ℕ) → In x (put p qs) → (p ≡ x) ⊎ In x qs
put_in p [] x i = i
put_in p (q ∷ qs) x i = put_in_at p q qs x (put_in p qs x) (eqb p q) (ltb p q) i

in_put_at : (p q : ℕ) (qs : List ℕ) (x : ℕ) → (In x qs → In x (put p qs)) → (b c : Bool) →
    In x (q ∷ qs) → In x (cond b (q ∷ qs) (cond c (p ∷ (q ∷ qs)) (q ∷ put p qs)))
in_put_at p q qs x ih true c i = i
in_put_at p q qs x ih false true i = inr i
in_put_at p q qs x ih false false (inl e) = inl e
in_put_at p q qs x ih false false (inr i) = inr (ih i)

pub in_put : (p : ℕ) (qs : List ℕ) (x : ℕ) → In x qs → In x (put p qs)
in_put p [] x i = absurd i
in_put p (q ∷ qs) x i = in_put_at p q qs x (in_put p qs x) (eqb p q) (ltb p q) i

in_put_self_at : (p q : ℕ) (qs : List ℕ) → In p (put p qs) → (b c : Bool) → eqb p q ≡ b → In p (cond b (q ∷ qs) (cond c (p ∷ (q ∷ qs)) (q ∷ put p qs)))
in_put_self_at p q qs ih true c e = inl (sym (eqb-true p q e))
in_put_self_at p q qs ih false true e = inl refl
in_put_self_at p q qs ih false false e = inr ih

pub in_put_self : (p : ℕ) (qs : List ℕ) → In p (put p qs)
in_put_self p [] = inl refl
in_put_self p (q ∷ qs) = in_put_self_at p q qs (in_put_self p qs) (eqb p q) (ltb p q) refl

pub below_all : (x : ℕ) (xs : List ℕ) → ascending (x ∷ xs) ≡ true → (y : ℕ) → In y xs → x < y
below_all x xs h y i = ltb-true x y (all_in (λ z. ltb x z) xs (and_parts (list_all (λ z. ltb x z) xs) (ascending xs) h).0 y i)

pub ascending_rest : (x : ℕ) (xs : List ℕ) → ascending (x ∷ xs) ≡ true → ascending xs ≡ true
ascending_rest x xs h = (and_parts (list_all (λ z. ltb x z) xs) (ascending xs) h).1

pub ascending_from : (x : ℕ) (xs : List ℕ) → ((y : ℕ) → In y xs → x < y) → ascending xs ≡ true → ascending (x ∷ xs) ≡ true
ascending_from x xs low h = and_from (list_all (λ z. ltb x z) xs) (ascending xs) (all_from (λ z. ltb x z) xs (λ y i. lt-ltb x y (low y i))) h

put_up_at : (p q : ℕ) (qs : List ℕ) → ascending (q ∷ qs) ≡ true → ascending (put p qs) ≡ true → (b c : Bool) → eqb p q ≡ b → ltb p q ≡ c →
    ascending (cond b (q ∷ qs) (cond c (p ∷ (q ∷ qs)) (q ∷ put p qs))) ≡ true
put_up_at p q qs h ih true c e l = h
put_up_at p q qs h ih false true e l = ascending_from p (q ∷ qs) (λ y i. first y i) h
  where
    first : (y : ℕ) → In y (q ∷ qs) → p < y
    first y (inl k) = let a = ltb-true p q l in omega arith
    first y (inr j) = let a = ltb-true p q l in let b = below_all q qs h y j in omega arith
put_up_at p q qs h ih false false e l = ascending_from q (put p qs) (λ y i. elim (put_in p qs y i) [ inl k ↦ let a = ltb-false p q l in let n = eqb-false p q e in omega arith | inr j ↦ below_all q qs h y j ]) ih

pub put_up : (p : ℕ) (qs : List ℕ) → ascending qs ≡ true → ascending (put p qs) ≡ true
put_up p [] h = refl
put_up p (q ∷ qs) h = put_up_at p q qs h (put_up p qs (ascending_rest q qs h)) (eqb p q) (ltb p q) refl refl

pub put_all_up : (ps qs : List ℕ) → ascending qs ≡ true → ascending (put_all ps qs) ≡ true
put_all_up [] qs h = h
put_all_up (p ∷ ps) qs h = put_up p (put_all ps qs) (put_all_up ps qs h)

pub put_all_in : (ps qs : List ℕ) (x : ℕ) → In x (put_all ps qs) → In x ps ⊎ In x qs
put_all_in [] qs x i = inr i
put_all_in (p ∷ ps) qs x i = elim (put_in p (put_all ps qs) x i) [ inl e ↦ inl (inl e) | inr j ↦ elim (put_all_in ps qs x j) [ inl k ↦ inl (inr k) | inr k ↦ inr k ] ]

pub in_put_all_left : (ps qs : List ℕ) (x : ℕ) → In x ps → In x (put_all ps qs)
in_put_all_left [] qs x i = absurd i
in_put_all_left (p ∷ ps) qs x (inl e) = subst (λ z. In z (put p (put_all ps qs))) e (in_put_self p (put_all ps qs))
in_put_all_left (p ∷ ps) qs x (inr i) = in_put p (put_all ps qs) x (in_put_all_left ps qs x i)

pub in_put_all_right : (ps qs : List ℕ) (x : ℕ) → In x qs → In x (put_all ps qs)
in_put_all_right [] qs x i = i
in_put_all_right (p ∷ ps) qs x i = in_put p (put_all ps qs) x (in_put_all_right ps qs x i)

same_head : (x y : ℕ) (xs ys : List ℕ) → ascending (x ∷ xs) ≡ true → ascending (y ∷ ys) ≡ true → In x (y ∷ ys) → In y (x ∷ xs) → x ≡ y
same_head x y xs ys hx hy (inl e) j = sym e
same_head x y xs ys hx hy (inr i) (inl e) = e
same_head x y xs ys hx hy (inr i) (inr j) = let a = below_all y ys hy x i in let b = below_all x xs hx y j in absurd (omega arith)

tail_in : (x y : ℕ) (xs ys : List ℕ) → ascending (x ∷ xs) ≡ true → x ≡ y → (z : ℕ) → In z xs → In z (y ∷ ys) → In z ys
tail_in x y xs ys h e z i (inl k) = let a = below_all x xs h z i in absurd (omega arith)
tail_in x y xs ys h e z i (inr j) = j

-- two ascending lists with the same members are equal
pub ascending_same : (xs ys : List ℕ) → ascending xs ≡ true → ascending ys ≡ true →
    ((z : ℕ) → In z xs → In z ys) → ((z : ℕ) → In z ys → In z xs) → xs ≡ ys
ascending_same [] [] hx hy to from = refl
ascending_same [] (y ∷ ys) hx hy to from = absurd (from y (inl refl))
ascending_same (x ∷ xs) [] hx hy to from = absurd (to x (inl refl))
ascending_same (x ∷ xs) (y ∷ ys) hx hy to from =
    let e = same_head x y xs ys hx hy (to x (inl refl)) (from y (inl refl)) in
    let rest = ascending_same xs ys (ascending_rest x xs hx) (ascending_rest y ys hy)
    (λ z i. tail_in x y xs ys hx e z i (to z (inr i)))
    (λ z i. tail_in y x ys xs hy (sym e) z i (from z (inr i))) in
    cc

pub same_list_self : (xs : List ℕ) → same_list xs xs ≡ true
same_list_self [] = refl
same_list_self (x ∷ xs) = and_from (eqb x x) (same_list xs xs) (eq-eqb x x refl) (same_list_self xs)

pub same_list_is : (xs ys : List ℕ) → same_list xs ys ≡ true → xs ≡ ys
same_list_is [] [] h = refl
same_list_is [] (y ∷ ys) h = absurd (true≢false (sym h))
same_list_is (x ∷ xs) [] h = absurd (true≢false (sym h))
same_list_is (x ∷ xs) (y ∷ ys) h =
    let p = and_parts (eqb x y) (same_list xs ys) h in
    let a = eqb-true x y p.0 in
    let b = same_list_is xs ys p.1 in
    cc

pub not_head : (x : ℕ) (xs : List ℕ) → distinct (x ∷ xs) ≡ true → In x xs → ⊥
not_head x xs d i =
    let n = all_in (λ y. cond (eqb x y) false true) xs (and_parts (list_all (λ y. cond (eqb x y) false true) xs) (distinct xs) d).0 x i in
    let e = eq-eqb x x refl in
    let m : false ≡ true = rw e at n in
    true≢false (sym m)

pub distinct_rest : (x : ℕ) (xs : List ℕ) → distinct (x ∷ xs) ≡ true → distinct xs ≡ true
distinct_rest x xs d = (and_parts (list_all (λ y. cond (eqb x y) false true) xs) (distinct xs) d).1

ascending_next : (x y : ℕ) (ys : List ℕ) → x < y → ascending (x ∷ (y ∷ ys)) ≡ ascending (y ∷ ys)
ascending_next x y ys l = same_truth _ _ (λ h. ascending_rest x (y ∷ ys) h) (λ h. ascending_from x (y ∷ ys) (λ z i. above z i h) h)
  where
    above : (z : ℕ) → In z (y ∷ ys) → ascending (y ∷ ys) ≡ true → x < z
    above z (inl e) h = subst (λ k. x < k) e l
    above z (inr i) h = let b = below_all y ys h z i in omega arith

-- a list from index i - 1 on consists of the numbers at the indices i - 1 and i, followed by the rest; so if one of these two
-- lists ascends, the other does
two_at : (xs : List ℕ) (i : ℕ) → 1 ≤ i → i < length xs → ascending (drop (i - 1) xs) ≡ ascending (get_or xs (i - 1) 0 ∷ (get_or xs i 0 ∷ drop (i + 1) xs))
two_at xs i low high =
    let back : (i - 1) + 1 ≡ i = omega arith in
    at_drop_more ascending xs (i - 1) 0 (omega arith)
    ∙ ap (λ n. ascending (get_or xs (i - 1) 0 ∷ drop n xs)) back
    ∙ at_drop_more (λ t. ascending (get_or xs (i - 1) 0 ∷ t)) xs i 0 high

pub ascends_more : (xs : List ℕ) (i : ℕ) → 1 ≤ i → i < length xs → get_or xs (i - 1) 0 < get_or xs i 0 → ascending (drop (i - 1) xs) ≡ ascending (drop ((i + 1) - 1) xs)
ascends_more xs i low high l =
    let back : i ≡ (i + 1) - 1 = omega arith in
    two_at xs i low high
    ∙ ascending_next (get_or xs (i - 1) 0) (get_or xs i 0) (drop (i + 1) xs) l
    ∙ sym (at_drop_more ascending xs i 0 high)
    ∙ ap (λ n. ascending (drop n xs)) back

-- what follows the first n numbers ascends, if that is at most one number
pub ascends_last : (xs : List ℕ) (n : ℕ) → length xs ≤ n + 1 → ascending (drop n xs) ≡ true
ascends_last [] zero h = refl
ascends_last [] (suc n) h = refl
ascends_last (x ∷ []) zero h = refl
ascends_last (x ∷ (y ∷ xs)) zero h = absurd (omega (arith, h))
ascends_last (x ∷ xs) (suc n) h = ascends_last xs n (omega (arith, h))
