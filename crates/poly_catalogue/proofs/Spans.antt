-- A row whose entries are added or removed one by one, and a row that moves to another index.
use Rattle.std.proofs.Common.{Bool, List, None, Option, Some, ap, arith, cond, eqb, false, inl, inr, leb, length, ltb, refl, sym, true, ℕ, ◌&&◌, ◌||◌, ◌+◌, ◌<◌, ◌∙◌, ◌≡◌, ◌≤◌, ◌⊎◌}
use Rattle.std.proofs.lemmas.Bool.{and_from, and_left, and_right, cases_eq, cases_lt, cond-false, cond-true, eq-eqb, le-leb, le-ltb, lt-leb, lt-ltb, ne_eqb, or_from, or_right}
use Rattle.std.proofs.lemmas.Option.{slice_get_past}
use Rattle.poly_catalogue.specs.Index.{Agree, Once}
use Rattle.poly_catalogue.proofs.Agreed.{but_else, but_here, given, respects, same_place, taken}
use Rattle.std.proofs.lemmas.Bool.Decides.{nat_tests}
use Rattle.poly_catalogue.specs.Rows.{at, but, half, moved, over, row, span}

pub span_more : (f : ℕ → ℕ → Option ℕ) (i first end : ℕ) → first < end → (a b : ℕ) → span f i (first + 1) end a b ≡ but (span f i first end) i first None a b
span_more f i first end l a b = grind (arith, nat_tests)

pub span_empty : (f : ℕ → ℕ → Option ℕ) (i n : ℕ) → (a b : ℕ) → span f i n n a b ≡ span f i 0 0 a b
span_empty f i n a b = grind (arith, nat_tests)

pub span_grows : (f : ℕ → ℕ → Option ℕ) (i k : ℕ) → (a b : ℕ) → span f i 0 (k + 1) a b ≡ but (span f i 0 k) i k (f i k) a b
span_grows f i k a b = grind (arith, nat_tests)

pub half_none : (f : ℕ → ℕ → Option ℕ) (from to : ℕ) → (a b : ℕ) → half f from to 0 a b ≡ span f to 0 0 a b
half_none f from to a b = grind (arith, nat_tests)

pub half_more : (f : ℕ → ℕ → Option ℕ) (from to n : ℕ) → (from ≡ to → ⊥) → (a b : ℕ) → half f from to (n + 1) a b ≡ but (but (half f from to n) from n None) to n (f from n) a b
half_more f from to n apart a b = grind (arith, nat_tests)

half_is : (f : ℕ → ℕ → Option ℕ) (from to n a b p : ℕ) → half f from to n a b ≡ Some p → ((a ≡ to) × (f from b ≡ Some p)) ⊎ ((a ≡ to → ⊥) × (f a b ≡ Some p))
half_is f from to n a b p h = elim (cases_eq a to) [
  | inl x ↦ inl (
    x,
    elim (cases_lt b n) [
      | inl l ↦ sym (cond-true (eqb a to) _ _ (eq-eqb a to x) ∙ cond-true (ltb b n) (f from b) None (lt-ltb b n l)) ∙ h
      | inr g ↦ absurd (let e : half f from to n a b ≡ None = cond-true (eqb a to) _ _ (eq-eqb a to x) ∙ cond-false (ltb b n) (f from b) None (le-ltb b n g) in let k : None ≡ Some p = sym e ∙ h in cc)
    ],
  )
  | inr x ↦ inr (x, out (eqb a from && ltb b n) (sym (cond-false (eqb a to) _ _ (ne_eqb a to x)) ∙ h))
]
  where
    out : (c : Bool) → cond c None (f a b) ≡ Some p → f a b ≡ Some p
    out true e = cc
    out false e = e

pub half_once : (f : ℕ → ℕ → Option ℕ) (from to n : ℕ) → Once f → Once (half f from to n)
half_once f from to n once t k l p a b = elim (half_is f from to n t k p a) [
  | inl x ↦ elim (half_is f from to n t l p b) [ inl y ↦ once from k l p x.1 y.1 | inr y ↦ absurd (y.0 x.0) ]
  | inr x ↦ elim (half_is f from to n t l p b) [ inl y ↦ absurd (x.0 y.0) | inr y ↦ once t k l p x.1 y.1 ]
]

-- one more number of a tiling that moves to another index
pub moves_more : (L B R R' : ℕ → ℕ → Option ℕ) (from to n p j : ℕ) → (from ≡ to → ⊥) → Once L → Agree (half L from to n) (over B from to) R → L from n ≡ Some p → B from n ≡ Some j →
    ((a b : ℕ) → R' a b ≡ but R p j (Some to) a b) → Agree (half L from to (n + 1)) (over B from to) R'
moves_more L B R R' from to n p j apart once g here index put =
    let H : ℕ → ℕ → Option ℕ = half L from to n in
    let O : ℕ → ℕ → Option ℕ = over B from to in
    let here1 : H from n ≡ Some p = cond-false (eqb from to) _ _ (ne_eqb from to apart) ∙ cond-false (eqb from from && ltb n n) None (L from n) (and_right (eqb from from) (ltb n n) (le-ltb n n (omega arith))) ∙ here in
    let place1 : O from n ≡ Some j = cond-false (eqb from to) _ _ (ne_eqb from to apart) ∙ index in
    let g1 = taken H O R g (half_once L from to n once) from n p j here1 place1 in
    let free : but H from n None to n ≡ None = but_else H from n None to n (λ z. apart (sym z.0)) ∙ cond-true (eqb to to) _ _ (eq-eqb to to refl) ∙ cond-false (ltb n n) (L from n) None (le-ltb n n (omega arith)) in
    let place2 : O to n ≡ Some j = cond-true (eqb to to) _ _ (eq-eqb to to refl) ∙ index in
    let g2 = given (but H from n None) O (but R p j None) g1 to n p j free place2 (but_here R p j None p j refl refl) in
    respects (but (but H from n None) to n (Some p)) O (but (but R p j None) p j (Some to)) (half L from to (n + 1)) O R' g2
    (λ a b. half_more L from to n apart a b ∙ ap (λ o. but (but H from n None) to n o a b) here)
    (λ a b q h. refl)
    (λ a b. put a b ∙ elim (same_place a b p j) [
      | inl z ↦ but_here R p j (Some to) a b z.0 z.1 ∙ sym (but_here (but R p j None) p j (Some to) a b z.0 z.1)
      | inr v ↦ but_else R p j (Some to) a b v ∙ sym (but_else (but R p j None) p j (Some to) a b v ∙ but_else R p j None a b v)
    ])

past : (rows : List (List ℕ)) (i b : ℕ) → length (row rows i) ≤ b → at rows i b ≡ None
past rows i b g = slice_get_past (row rows i) b g

pub span_whole : (rows : List (List ℕ)) (i n : ℕ) → n ≡ length (row rows i) → (a b : ℕ) → span (at rows) i 0 n a b ≡ at rows a b
span_whole rows i n e a b = elim (cases_eq a i) [
  | inl x ↦ elim (cases_lt b n) [
    | inl l ↦ cond-false (eqb a i && (ltb b 0 || leb n b)) None (at rows a b) (and_right (eqb a i) _ (or_from (ltb b 0) (leb n b) (le-ltb b 0 (omega arith)) (lt-leb n b l)))
    | inr g ↦ cond-true (eqb a i && (ltb b 0 || leb n b)) None (at rows a b) (and_from (eqb a i) _ (eq-eqb a i x) (or_right (ltb b 0) (leb n b) (le-leb n b g))) ∙ sym (ap (λ z. at rows z b) x ∙ past rows i b (omega (arith, e)))
  ]
  | inr n' ↦ cond-false (eqb a i && (ltb b 0 || leb n b)) None (at rows a b) (and_left (eqb a i) _ (ne_eqb a i n'))
]

pub half_all : (rows : List (List ℕ)) (from to n : ℕ) → length (row rows from) ≤ n → (a b : ℕ) → half (at rows) from to n a b ≡ moved (at rows) from to a b
half_all rows from to n e a b = elim (cases_lt b n) [
  | inl l ↦ grind (arith, nat_tests)
  | inr g ↦ let none : at rows from b ≡ None = past rows from b (omega arith) in elim (cases_eq a from) [
    | inl x ↦ let none1 : at rows a b ≡ None = ap (λ z. at rows z b) x ∙ none in grind (arith, nat_tests)
    | inr x ↦ grind (arith, nat_tests)
  ]
]

pub over_moved : (B L : ℕ → ℕ → Option ℕ) (from to a b p : ℕ) → moved L from to a b ≡ Some p → moved B from to a b ≡ over B from to a b
over_moved B L from to a b p h = grind (arith, nat_tests)

pub half_from : (f : ℕ → ℕ → Option ℕ) (from to n : ℕ) → (from ≡ to → ⊥) → half f from to n from n ≡ f from n
half_from f from to n apart = grind (arith, nat_tests)

pub over_from : (f : ℕ → ℕ → Option ℕ) (from to n : ℕ) → (from ≡ to → ⊥) → over f from to from n ≡ f from n
over_from f from to n apart = grind (arith, nat_tests)
