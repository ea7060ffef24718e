-- The last tiling takes the index of one that leaves the list.
use Rattle.std.proofs.Common.{Bool, List, None, Option, Some, [], ap, arith, eqb, false, get_or, inl, inr, leb, length, ltb, refl, set, slice_get, suc, sym, true, zero, ℕ, ◌&&◌, ◌||◌, ◌+◌, ◌-◌, ◌<◌, ◌∙◌, ◌∷◌, ◌≡◌, ◌≤◌, ◌⊎◌}
use Rattle.std.proofs.lemmas.Bool.{and_from, and_left, cases_eq, cases_lt, cond-false, cond-true, eq-eqb, eqb-true, le-leb, ne_eqb, or_right}
use Rattle.std.proofs.lemmas.List.{get_or_past, length-set, length-take-le}
use Rattle.std.proofs.lemmas.Map.Keys.{IsDistinct-from_apart}
use Rattle.std.proofs.lemmas.Map.Steps.{length-le_from_distinct_below}
use Rattle.std.specs.List.{list_any, swap_remove}
use Rattle.poly_catalogue.specs.Rows.{at, moved, row, span}
use Rattle.poly_catalogue.specs.Index.{Agree, Once}
use Rattle.poly_catalogue.proofs.Written.{read_some, row_gone, row_kept, row_swapped}

pub length_swap_remove : {X : Type 0} (rows : List X) (t : ℕ) (d : X) → t < length rows → length (swap_remove rows t d) + 1 ≡ length rows
length_swap_remove rows t d l =
    let s = set rows t (get_or rows (length rows - 1) d) in
    let n : length s ≡ length rows = length-set rows t (get_or rows (length rows - 1) d) in
    omega (arith, length-take-le (length rows - 1) s (omega arith))

row_past : (rows : List (List ℕ)) (a : ℕ) → length rows ≤ a → row rows a ≡ []
row_past rows a l = get_or_past rows a [] l

-- if a row that isn't the last is removed, the last row takes its index
pub swapped_at : (rows : List (List ℕ)) (t : ℕ) (d : List ℕ) (n : ℕ) → n + 1 ≡ length rows → t < n → (a b : ℕ) → at (swap_remove rows t d) a b ≡ moved (at rows) n t a b
swapped_at rows t d n e l a b = elim (cases_eq a t) [
  | inl x ↦
      ap (λ r. slice_get r b) (row_swapped rows t d a (omega arith) x)
      ∙ ap (λ z. at rows z b) (let y : length rows - 1 ≡ n = omega arith in y)
      ∙ sym (cond-true (eqb a t) (at rows n b) _ (eq-eqb a t x))
  | inr x ↦ elim (cases_lt a n) [
    | inl m ↦
        ap (λ r. slice_get r b) (row_kept rows t d a (omega arith) x (omega arith))
        ∙ sym (cond-false (eqb a t) (at rows n b) _ (ne_eqb a t x) ∙ cond-false (eqb a n) None (at rows a b) (ne_eqb a n (λ y. absurd (omega arith))))
    | inr g ↦
        ap (λ r. slice_get r b) (row_gone rows t d a (omega arith))
        ∙ sym (cond-false (eqb a t) (at rows n b) _ (ne_eqb a t x) ∙ elim (cases_eq a n) [
          | inl y ↦ cond-true (eqb a n) None (at rows a b) (eq-eqb a n y)
          | inr y ↦ cond-false (eqb a n) None (at rows a b) (ne_eqb a n y) ∙ ap (λ r. slice_get r b) (row_past rows a (omega arith))
        ])
  ]
]

-- if the last row is removed, no other row moves
pub last_at : (rows : List (List ℕ)) (t : ℕ) (d : List ℕ) → t + 1 ≡ length rows → (a b : ℕ) → at (swap_remove rows t d) a b ≡ span (at rows) t 0 0 a b
last_at rows t d e a b = elim (cases_eq a t) [
  | inl x ↦ ap (λ r. slice_get r b) (row_gone rows t d a (omega arith)) ∙ sym (cond-true (eqb a t && (ltb b 0 || leb 0 b)) None (at rows a b) (and_from (eqb a t) _ (eq-eqb a t x) (or_right (ltb b 0) (leb 0 b) (le-leb 0 b (omega arith)))))
  | inr x ↦ elim (cases_lt a t) [
    | inl m ↦ ap (λ r. slice_get r b) (row_kept rows t d a (omega arith) x (omega arith)) ∙ sym (cond-false (eqb a t && (ltb b 0 || leb 0 b)) None (at rows a b) (and_left (eqb a t) _ (ne_eqb a t x)))
    | inr g ↦ ap (λ r. slice_get r b) (row_gone rows t d a (omega arith)) ∙ sym (cond-false (eqb a t && (ltb b 0 || leb 0 b)) None (at rows a b) (and_left (eqb a t) _ (ne_eqb a t x)) ∙ ap (λ r. slice_get r b) (row_past rows a (omega arith)))
  ]
]

none_some : {X : Type 0} (x : X) (o : Option X) → o ≡ None → o ≡ Some x → ⊥
none_some x o a b = cc

swapped_is : (rows : List (List ℕ)) (t : ℕ) (d : List ℕ) → t < length rows → (a : ℕ) → (c : ℕ) × ((b : ℕ) → (at (swap_remove rows t d) a b ≡ None) ⊎ (at (swap_remove rows t d) a b ≡ at rows c b))
swapped_is rows t d l a = elim (cases_lt (a + 1) (length rows)) [
  | inl m ↦ elim (cases_eq a t) [
    | inl x ↦ (length rows - 1, λ b. inr (ap (λ r. slice_get r b) (row_swapped rows t d a (omega arith) x)))
    | inr x ↦ (a, λ b. inr (ap (λ r. slice_get r b) (row_kept rows t d a l x m)))
  ]
  | inr g ↦ (a, λ b. inl (ap (λ r. slice_get r b) (row_gone rows t d a (omega arith))))
]

pub swapped_once : (rows : List (List ℕ)) (t : ℕ) (d : List ℕ) → t < length rows → Once (at rows) → Once (at (swap_remove rows t d))
swapped_once rows t d l once a k m p x y =
    let c = swapped_is rows t d l a in
    elim (c.1 k) [
      | inl n ↦ absurd (none_some p _ n x)
      | inr e ↦ elim (c.1 m) [
        | inl n ↦ absurd (none_some p _ n y)
        | inr f ↦ once c.0 k m p (sym e ∙ x) (sym f ∙ y)
      ]
    ]

span_none : (f : ℕ → ℕ → Option ℕ) (t b : ℕ) → span f t 0 0 t b ≡ None
span_none f t b = cond-true (eqb t t && (ltb b 0 || leb 0 b)) None (f t b) (and_from (eqb t t) _ (eq-eqb t t refl) (or_right (ltb b 0) (leb 0 b) (le-leb 0 b (omega arith))))

found_step : (y q : ℕ) (ys : List ℕ) → (list_any (eqb q) ys ≡ true → (i : ℕ) × (slice_get ys i ≡ Some q)) → (b : Bool) → eqb q y ≡ b → (b || list_any (eqb q) ys) ≡ true → (i : ℕ) × (slice_get (y ∷ ys) i ≡ Some q)
found_step y q ys ih true e m = (zero, ap Some (sym (eqb-true q y e)))
found_step y q ys ih false e m = let r = ih m in (suc r.0, r.1)

found : (ys : List ℕ) (q : ℕ) → list_any (eqb q) ys ≡ true → (i : ℕ) × (slice_get ys i ≡ Some q)
found [] q h = absurd cc
found (y ∷ ys) q h = found_step y q ys (found ys q) (eqb q y) refl h

-- a row has no more entries than there are tilings
pub row_short : (L B : ℕ → ℕ → Option ℕ) (rows : List (List ℕ)) (n p : ℕ) → Agree L B (at rows) → Once L → ((t k q : ℕ) → L t k ≡ Some q → t < n) → length (row rows p) ≤ n
row_short L B rows n p g once low =
    let xs = row rows p in
    length-le_from_distinct_below xs n
    (IsDistinct-from_apart eqb xs (λ i j d l m. ne_eqb (get_or xs i d) (get_or xs j d) (λ e.
    let t = get_or xs i 0 in
    let same : t ≡ get_or xs j 0 = zeros xs i d (omega arith) ∙ e ∙ sym (zeros xs j d m) in
    let x = g.backed p i t (read_some rows p i (omega arith)) in
    let y = g.backed p j t (read_some rows p j m ∙ ap Some (sym same)) in
    let k : x.0 ≡ y.0 = once t x.0 y.0 p x.1 y.1 in
    let b : Some i ≡ Some j = sym x.2 ∙ ap (λ z. B t z) k ∙ y.2 in
    let c : i ≡ j = cc in
    absurd (omega arith))))
    (λ q h. let i = found xs q h in let x = g.backed p i.0 q i.1 in low q x.0 p x.1)
  where
    zeros : (ys : List ℕ) (i d : ℕ) → i < length ys → get_or ys i 0 ≡ get_or ys i d
    zeros [] i d l = absurd (omega arith)
    zeros (y ∷ ys) zero d l = refl
    zeros (y ∷ ys) (suc i) d l = zeros ys i d (omega arith)
