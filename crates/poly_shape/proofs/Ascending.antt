-- Ascending lists over any total order: where a search ends, what an insertion there makes, and what follows if one such list
-- has all elements of another.
use Rattle.std.proofs.Common.{◌≡◌, ℕ, zero, suc, ◌+◌, ◌-◌, ◌<◌, ◌≤◌, ◌⊎◌, List, [], ◌∷◌, ◌++◌, length, get_or, take, drop, refl, sym, ap, subst, ◌∙◌, inl, inr, arith}
use Rattle.std.specs.declared.cmp.Ordering.{Ordering}
use Rattle.std.specs.declared.cmp.Ordering.TheVariants.{Less, Equal, Greater}
use Rattle.std.specs.Cmp.{IsTotalOrder}
use Rattle.std.specs.Ordering.{is_lt, ordering_index, ordering_reverse, ordering_then, nat_cmp}
use Rattle.std.specs.List.{Contains, AllWithin, HoldsAt, insert}
use Rattle.std.specs.List.Sorted.{IsSortedBy, IsNonDecreasingBy}
use Rattle.std.proofs.lemmas.List.{take-append-drop, get_or_read}
use Rattle.std.proofs.lemmas.List.Edits.{length-insert, get_or-insert_below, get_or-insert_at, get_or-insert_above}
use Rattle.std.proofs.lemmas.List.Elements.{Contains-append_left, Contains-append_right, Contains-append_cases}
use Rattle.std.proofs.lemmas.List.Sorted.{searchable_from_sorted}
use Rattle.std.proofs.lemmas.Bool.{cases_lt, cases_eq}
use Rattle.poly_grid.specs.Spot.{Spot}
use Rattle.poly_shape.specs.Order.{IsAscending, Adds, spot_cmp, cells_cmp}
use Rattle.std.specs.FinMap.{nat_cmp-IsAntisymmetric, slice_cmp-IsAntisymmetric}

module _ {X : Type 0} where
  contains_cons_cases : (x : X) (xs : List X) (y : X) → Contains (x ∷ xs) y → Contains xs y ⊎ (x ≡ y)
  contains_cons_cases x xs y (zero, lt, e) = inr e
  contains_cons_cases x xs y (suc k, lt, e) = inl (k, omega arith, e)

  contains_cons : (x : X) (xs : List X) (y : X) → Contains xs y → Contains (x ∷ xs) y
  contains_cons x xs y (k, lt, e) = (suc k, omega arith, e)

  -- each element that the list has once x is inserted was there before or is x
  pub contains_insert_cases : (xs : List X) (i : ℕ) (x y : X) → Contains (insert xs i x) y → Contains xs y ⊎ (x ≡ y)
  contains_insert_cases xs i x y here =
      let whole : take i xs ++ drop i xs ≡ xs = take-append-drop i xs in
      elim (Contains-append_cases (take i xs) (x ∷ drop i xs) y here) [
        | inl front ↦ inl (subst (λ l. Contains l y) whole (Contains-append_left (take i xs) (drop i xs) y front))
        | inr back ↦ elim (contains_cons_cases x (drop i xs) y back) [
          | inl old ↦ inl (subst (λ l. Contains l y) whole (Contains-append_right (take i xs) (drop i xs) y old))
          | inr new ↦ inr new
        ]
      ]

  pub contains_insert_old : (xs : List X) (i : ℕ) (x y : X) → Contains xs y → Contains (insert xs i x) y
  contains_insert_old xs i x y here =
      elim (Contains-append_cases (take i xs) (drop i xs) y (subst (λ l. Contains l y) (sym (take-append-drop i xs)) here)) [
        | inl front ↦ Contains-append_left (take i xs) (x ∷ drop i xs) y front
        | inr back ↦ Contains-append_right (take i xs) (x ∷ drop i xs) y (contains_cons x (drop i xs) y back)
      ]

  pub contains_insert_new : (xs : List X) (i : ℕ) (x y : X) → x ≡ y → Contains (insert xs i x) y
  contains_insert_new xs i x y e = Contains-append_right (take i xs) (x ∷ drop i xs) y (zero, omega arith, e)

  pub adds_insert : (xs : List X) (i : ℕ) (x : X) → Adds xs x (insert xs i x)
  adds_insert xs i x y = (contains_insert_cases xs i x y, λ h. elim h [ inl old ↦ contains_insert_old xs i x y old | inr e ↦ contains_insert_new xs i x y e ])

  pub adds_same : (xs : List X) (x : X) → Contains xs x → Adds xs x xs
  adds_same xs x there y = (λ h. inl h, λ h. elim h [ inl old ↦ old | inr e ↦ subst (λ v. Contains xs v) e there ])

  get_or-insert_after : (xs : List X) (i : ℕ) (y d : X) (k : ℕ) → i < k → i ≤ length xs → get_or (insert xs i y) k d ≡ get_or xs (k - 1) d
  get_or-insert_after xs i y d k lt le =
      let e : k - 1 + 1 ≡ k = omega arith in
      ap (λ j. get_or (insert xs i y) j d) (sym e) ∙ get_or-insert_above xs i y d (k - 1) (omega arith) le

module _ {X : Type 0} {R : X → X → Ordering} (o : IsTotalOrder R) where
  turned_less : (a b : X) → R a b ≡ Less → R b a ≡ Greater
  turned_less a b e = o.antisymm b a ∙ ap ordering_reverse e

  turned_greater : (a b : X) → R a b ≡ Greater → R b a ≡ Less
  turned_greater a b e = o.antisymm b a ∙ ap ordering_reverse e

  pub sorted_from_ascending : (xs : List X) → IsAscending R xs → IsSortedBy (λ a b. is_lt (R a b)) xs
  sorted_from_ascending xs up k d low lt = ap is_lt (turned_less _ _ (up k (k + 1) d (omega arith) lt))

  -- the results of comparing the elements with x never fall along the list, as a binary search requires
  pub searchable : (xs : List X) (x : X) → IsAscending R xs → IsNonDecreasingBy (λ y. ordering_index (R y x)) xs
  searchable xs x up = searchable_from_sorted o (λ y. y) xs x (sorted_from_ascending xs up)

  pub ascending_insert : (xs : List X) (i : ℕ) (x : X) → IsAscending R xs → i ≤ length xs
      → AllWithin (λ y. R y x ≡ Less) xs 0 i → AllWithin (λ y. R y x ≡ Greater) xs i (length xs) → IsAscending R (insert xs i x)
  ascending_insert xs i x up le low high a b d ab bn =
      let n : length (insert xs i x) ≡ length xs + 1 = length-insert xs i x le in
      elim (cases_lt b i) [
        | inl below ↦ rw (get_or-insert_below xs i x d a (omega arith) le, get_or-insert_below xs i x d b below le) (up a b d ab (omega arith))
        | inr from ↦ elim (cases_eq b i) [
          | inl is ↦ rw (is, get_or-insert_below xs i x d a (omega arith) le, get_or-insert_at xs i x d le) (low a d (omega arith) (omega arith))
          | inr not_at ↦ rw (get_or-insert_after xs i x d b (omega arith) le) (elim (cases_lt a i) [
            | inl a_below ↦ rw (get_or-insert_below xs i x d a a_below le) (up a (b - 1) d (omega arith) (omega arith))
            | inr a_from ↦ elim (cases_eq a i) [
              | inl a_is ↦ rw (a_is, get_or-insert_at xs i x d le) (turned_greater _ _ (high (b - 1) d (omega arith) (omega arith)))
              | inr a_not ↦ rw (get_or-insert_after xs i x d a (omega arith) le) (up (a - 1) (b - 1) d (omega arith) (omega arith))
            ]
          ])
        ]
      ]

  -- if a binary search ends at an element that ties with x, the list has x
  pub found_is : ((x y : X) → R x y ≡ Equal → x ≡ y) → (xs : List X) (x : X) (i : ℕ) → i < length xs → HoldsAt (λ y. R y x ≡ Equal) xs i → Contains xs x
  found_is same xs x i lt here = (i, lt, same _ _ (here x))

then_equal : (p q : Ordering) → ordering_then p q ≡ Equal → (p ≡ Equal) × (q ≡ Equal)
then_equal Less q e = (e, absurd (cc))
then_equal Equal q e = (refl, e)
then_equal Greater q e = (e, absurd (cc))

-- cells with the same column and row are equal
pub same_places : (a b : Spot) → a.x ≡ b.x → a.y ≡ b.y → a ≡ b
same_places a b xs ys = λ i. record { x = xs i; y = ys i }

pub same_spot : (a b : Spot) → spot_cmp a b ≡ Equal → a ≡ b
same_spot a b e = let both = then_equal (nat_cmp a.y b.y) (nat_cmp a.x b.x) e in
    same_places a b (nat_cmp-IsAntisymmetric _ _ both.1) (nat_cmp-IsAntisymmetric _ _ both.0)

pub same_cells : (a b : List Spot) → cells_cmp a b ≡ Equal → a ≡ b
same_cells a b e = slice_cmp-IsAntisymmetric same_spot a b e

module _ {X : Type 0} {R : X → X → Ordering} (o : IsTotalOrder R) where
  pub not_below_itself : (x : X) → R x x ≡ Less → ⊥
  not_below_itself x e = let f : Less ≡ Greater = sym e ∙ turned_less o x x e in cc

  not_both_below : (x y : X) → R x y ≡ Less → R y x ≡ Less → ⊥
  not_both_below x y e h = let f : Less ≡ Greater = sym h ∙ turned_less o x y e in cc

  tail_ascending : (x : X) (xs : List X) → IsAscending R (x ∷ xs) → IsAscending R xs
  tail_ascending x xs up i j d lt le = up (suc i) (suc j) d (omega arith) (omega arith)

  head_below : (x : X) (xs : List X) (v : X) → IsAscending R (x ∷ xs) → Contains xs v → R x v ≡ Less
  head_below x xs v up (k, lt, e) = subst (λ w. R x w ≡ Less) e (up zero (suc k) v (omega arith) (omega arith))

  same_heads : (x y : X) (xs ys : List X) → IsAscending R (x ∷ xs) → IsAscending R (y ∷ ys) → Contains (y ∷ ys) x → Contains (x ∷ xs) y → x ≡ y
  same_heads x y xs ys up vp here there = elim (contains_cons_cases y ys x here) [
    | inr e ↦ sym e
    | inl later ↦ elim (contains_cons_cases x xs y there) [
      | inr e ↦ e
      | inl after ↦ absurd (not_both_below x y (head_below x xs y up after) (head_below y ys x vp later))
    ]
  ]

  tail_part : (x y : X) (xs ys : List X) → IsAscending R (x ∷ xs) → x ≡ y → ((v : X) → Contains (x ∷ xs) v → Contains (y ∷ ys) v) → (v : X) → Contains xs v → Contains ys v
  tail_part x y xs ys up e ab v here = elim (contains_cons_cases y ys v (ab v (contains_cons x xs v here))) [
    | inl later ↦ later
    | inr is ↦ absurd (not_below_itself x (subst (λ w. R x w ≡ Less) (sym (e ∙ is)) (head_below x xs v up here)))
  ]

  -- ascending lists with the same elements are equal
  pub same_ascending : (a b : List X) → IsAscending R a → IsAscending R b → ((x : X) → Contains a x → Contains b x) → ((x : X) → Contains b x → Contains a x) → a ≡ b
  same_ascending [] [] up vp ab ba = refl
  same_ascending [] (y ∷ ys) up vp ab ba = let h = ba y (zero, omega arith, refl) in absurd (omega (arith, h.1))
  same_ascending (x ∷ xs) [] up vp ab ba = let h = ab x (zero, omega arith, refl) in absurd (omega (arith, h.1))
  same_ascending (x ∷ xs) (y ∷ ys) up vp ab ba =
      let e = same_heads x y xs ys up vp (ab x (zero, omega arith, refl)) (ba y (zero, omega arith, refl)) in
      let rest = same_ascending xs ys (tail_ascending x xs up) (tail_ascending y ys vp) (tail_part x y xs ys up e ab) (tail_part y x ys xs vp (sym e) ba) in
      λ i. e i ∷ rest i

module _ {X : Type 0} {R : X → X → Ordering} (o : IsTotalOrder R) where
  -- if y ∷ ys has all elements of x ∷ xs, and ys has x, then ys has all elements of x ∷ xs
  all_later : (x y : X) (xs ys : List X) → IsAscending R (x ∷ xs) → IsAscending R (y ∷ ys) → Contains ys x
      → ((v : X) → Contains (x ∷ xs) v → Contains (y ∷ ys) v) → (v : X) → Contains (x ∷ xs) v → Contains ys v
  all_later x y xs ys up vp later ab v here = elim (contains_cons_cases y ys v (ab v here)) [
    | inl there ↦ there
    | inr is ↦ let below : R y x ≡ Less = head_below o y ys x vp later in
        elim (contains_cons_cases x xs v here) [
          | inl after ↦ absurd (not_both_below o x y (subst (λ w. R x w ≡ Less) (sym is) (head_below o x xs v up after)) below)
          | inr first ↦ absurd (not_below_itself o x (subst (λ w. R w x ≡ Less) (is ∙ sym first) below))
        ]
  ]

  -- an ascending list has at least as many elements as an ascending part of it
  pub length-part : (a b : List X) → IsAscending R a → IsAscending R b → ((v : X) → Contains a v → Contains b v) → length a ≤ length b
  length-part [] b up vp ab = omega arith
  length-part (x ∷ xs) [] up vp ab = let h = ab x (zero, omega arith, refl) in absurd (omega (arith, h.1))
  length-part (x ∷ xs) (y ∷ ys) up vp ab = elim (contains_cons_cases y ys x (ab x (zero, omega arith, refl))) [
    | inr e ↦ let le = length-part xs ys (tail_ascending o x xs up) (tail_ascending o y ys vp) (tail_part o x y xs ys up (sym e) ab) in omega (arith, le)
    | inl later ↦ let le = length-part (x ∷ xs) ys up (tail_ascending o y ys vp) (all_later x y xs ys up vp later ab) in omega (arith, le)
  ]

  -- an ascending part that lacks an element of an ascending list is shorter than the list
  pub part_shorter : (a b : List X) (c : X) → IsAscending R a → IsAscending R b → ((v : X) → Contains a v → Contains b v) → Contains b c → (Contains a c → ⊥) → length a < length b
  part_shorter [] [] c up vp ab has lacks = absurd (omega (arith, has.1))
  part_shorter [] (y ∷ ys) c up vp ab has lacks = omega arith
  part_shorter (x ∷ xs) [] c up vp ab has lacks = absurd (omega (arith, has.1))
  part_shorter (x ∷ xs) (y ∷ ys) c up vp ab has lacks = elim (contains_cons_cases y ys x (ab x (zero, omega arith, refl))) [
    | inr e ↦ elim (contains_cons_cases y ys c has) [
      | inr is ↦ absurd (lacks (zero, omega arith, sym e ∙ is))
      | inl after ↦ let lt = part_shorter xs ys c (tail_ascending o x xs up) (tail_ascending o y ys vp) (tail_part o x y xs ys up (sym e) ab) after (λ h. lacks (contains_cons x xs c h)) in omega (arith, lt)
    ]
    | inl later ↦ let le = length-part (x ∷ xs) ys up (tail_ascending o y ys vp) (all_later x y xs ys up vp later ab) in omega (arith, le)
  ]

-- what fails at each index below i and at i itself fails at each index below i + 1
pub none_more : {X : Type 0} (P : X → Type 0) (xs : List X) (i : ℕ) (a : X) → i < length xs → a ≡ get_or xs i a → (P a → ⊥)
    → ((k : ℕ) (d : X) → k < i → P (get_or xs k d) → ⊥) → (k : ℕ) (d : X) → k < i + 1 → P (get_or xs k d) → ⊥
none_more P xs i a lt is fails below k d less p = elim (cases_eq k i) [
  | inr other ↦ below k d (omega arith) p
  | inl same ↦ fails (subst P (sym (get_or_read xs i a lt is d)) (subst (λ j. P (get_or xs j d)) same p))
]
