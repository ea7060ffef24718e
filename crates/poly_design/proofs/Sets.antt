-- Sets as lists: indices in ascending lists, members added one after another, and sorting.
use Rattle.std.proofs.Common.{◌≡◌, ◌∙◌, ℕ, zero, suc, ◌+◌, ◌-◌, ◌<◌, ◌⊎◌, ◌↔◌, Bool, true, List, [], ◌∷◌, ◌++◌, length, get_or, map, take, append_assoc, Result, Ok, Err, refl, sym, ap, subst, inl, inr, arith}
use mathlib.Core.Bool.{true≢false}
use Rattle.std.specs.declared.cmp.Ordering.{Ordering}
use Rattle.std.specs.declared.cmp.Ordering.TheVariants.{Less, Greater}
use Rattle.std.specs.Prelude.{IfOk, IfErr, IsTrue, is_ok}
use Rattle.std.specs.Ordering.{is_eq, ordering_reverse, eq_by_cmp}
use Rattle.std.specs.Cmp.{IsTotalOrder, IsEquivalence}
use Rattle.std.specs.List.{Contains, IsDistinct, insert, remove, dedup}
use Rattle.std.specs.Map.{keys_of}
use Rattle.std.specs.List.Sorted.{IsPermutation, IsSorted, IsStrictlySortedBy}
use Rattle.std.specs.List.Retain.{IsFiltered, DiffersFromLast}
use Rattle.std.proofs.lemmas.Bool.{cases_lt, cases_eq}
use Rattle.std.proofs.lemmas.List.{append-nil, map_more, get_or-map, length-map, length-append, get_or_append_left, get_or-append_right}
use Rattle.std.proofs.lemmas.List.Edits.{length-remove, get_or-remove_below, get_or-remove_above}
use Rattle.std.proofs.lemmas.List.Elements.{Contains-get_or, Contains-append_left, Contains-push, Contains-push_cases}
use Rattle.std.proofs.lemmas.List.Filters.{dedup_is}
use Rattle.std.proofs.lemmas.List.Kept.{Contains-dedup, Contains-from_dedup, IsStrictlySortedBy-dedup}
use Rattle.std.proofs.lemmas.List.Sorted.{Contains-permutation, IsPermutation-sym}
use Rattle.std.proofs.lemmas.Map.Keys.{IsDistinct-from_apart, Less-from_sorted}
use Rattle.poly_shape.specs.Order.{IsAscending}
use Rattle.poly_shape.proofs.Ascending.{ascending_insert}
use Rattle.poly_design.specs.Listed.{IsListOf, AddsAll, TakesAway, HasAt, IsGapFor}

-- ---- members

-- what a list contains is its first element or one of the others
pub first_or_later : {X : Type 0} (x : X) (xs : List X) (y : X) → Contains (x ∷ xs) y → Contains xs y ⊎ (x ≡ y)
first_or_later x xs y (zero, lt, e) = inr e
first_or_later x xs y (suc k, lt, e) = inl (k, omega arith, e)

pub later : {X : Type 0} (x : X) (xs : List X) (y : X) → Contains xs y → Contains (x ∷ xs) y
later x xs y (k, lt, e) = (suc k, omega arith, e)

pub first : {X : Type 0} (x : X) (xs : List X) → Contains (x ∷ xs) x
first x xs = (zero, omega arith, refl)

pub contains_map : {X Y : Type 0} (f : X → Y) (xs : List X) (x : X) → Contains xs x → Contains (map f xs) (f x)
contains_map f xs x (k, lt, e) = (k, omega (arith, length-map xs f), get_or-map f xs k x (f x) lt ∙ ap f e)

pub contains_map_from : {X Y : Type 0} (f : X → Y) (xs : List X) (y : Y) → Contains (map f xs) y → (x : X) × Contains xs x × (f x ≡ y)
contains_map_from f [] y (k, lt, e) = absurd (omega arith)
contains_map_from f (x ∷ xs) y (k, lt, e) =
    let below : k < length (x ∷ xs) = omega (arith, length-map (x ∷ xs) f) in
    (get_or (x ∷ xs) k x, Contains-get_or (x ∷ xs) k x below, sym (get_or-map f (x ∷ xs) k x y below) ∙ e)

pub lacks_nil : {X : Type 0} (x : X) → Contains [] x → ⊥
lacks_nil x (k, lt, e) = omega arith

-- ---- members added

pub adds_none : {X : Type 0} (P : ℕ → X → Type 0) (old : List X) → AddsAll (λ x. (i : ℕ) × (i < 0) × P i x) old old
adds_none P old x = (λ h. inl h, λ h. elim h [ inl there ↦ there | inr p ↦ absurd (omega (arith, p.1)) ])

-- one more round of a loop, which adds each x that satisfies P n
pub adds_more : {X : Type 0} (P : ℕ → X → Type 0) (n : ℕ) (old list list' : List X) → AddsAll (λ x. (i : ℕ) × (i < n) × P i x) old list → AddsAll (P n) list list'
    → AddsAll (λ x. (i : ℕ) × (i < n + 1) × P i x) old list'
adds_more P n old list list' before more x = (
  λ h. elim ((more x).0 h) [
    | inl earlier ↦ elim ((before x).0 earlier) [ inl there ↦ inl there | inr p ↦ inr (p.0, omega (arith, p.1), p.2) ]
    | inr now ↦ inr (n, omega arith, now)
  ],
  λ h. elim h [
    | inl there ↦ (more x).1 (inl ((before x).1 (inl there)))
    | inr p ↦ elim (cases_lt p.0 n) [
      | inl below ↦ (more x).1 (inl ((before x).1 (inr (p.0, below, p.2))))
      | inr from ↦ let e : p.0 ≡ n = omega (arith, p.1) in (more x).1 (inr (subst (λ i. P i x) e p.2))
    ]
  ],
)

pub adds_no : {X : Type 0} (P : X → Type 0) (old : List X) → ((x : X) → P x → ⊥) → AddsAll P old old
adds_no P old none x = (λ h. inl h, λ h. elim h [ inl there ↦ there | inr p ↦ absurd (none x p) ])

pub adds_push : {X : Type 0} (P : X → Type 0) (old : List X) (k : X) → P k → ((x : X) → P x → k ≡ x) → AddsAll P old (old ++ k ∷ [])
adds_push P old k p only x = (
  λ h. elim (Contains-push_cases old k x h) [ inl there ↦ inl there | inr is ↦ inr (subst P is p) ],
  λ h. elim h [ inl there ↦ Contains-append_left old (k ∷ []) x there | inr q ↦ subst (Contains (old ++ k ∷ [])) (only x q) (Contains-push old k) ],
)

pub adds_same : {X : Type 0} (P Q : X → Type 0) (old new : List X) → AddsAll P old new → ((x : X) → P x ↔ Q x) → AddsAll Q old new
adds_same P Q old new adds same x = (
  λ h. elim ((adds x).0 h) [ inl there ↦ inl there | inr p ↦ inr ((same x).0 p) ],
  λ h. elim h [ inl there ↦ (adds x).1 (inl there) | inr q ↦ (adds x).1 (inr ((same x).1 q)) ],
)

pub listed_same : {X : Type 0} {R : X → X → Ordering} (P Q : X → Type 0) (list : List X) → IsListOf R P list → ((x : X) → P x ↔ Q x) → IsListOf R Q list
listed_same P Q list is same = record {
  ascending = is.ascending;
  exact = λ x. (λ h. (same x).0 ((is.exact x).0 h), λ q. (is.exact x).1 ((same x).1 q));
}

-- ---- ascending lists

pub ascending_from_sorted : {X : Type 0} (R : X → X → Ordering) (xs : List X) → IsStrictlySortedBy R xs → IsAscending R xs
ascending_from_sorted R xs up i j d lt le = Less-from_sorted R xs i j d up lt le

pub distinct_keys : {X : Type 0} (R : X → X → Ordering) (xs : List X) → IsAscending R xs → IsDistinct (eq_by_cmp R) xs
distinct_keys R xs up = IsDistinct-from_apart (eq_by_cmp R) xs (λ i j d lt le. ap is_eq (up i j d lt le))

pub ascending_append : {X : Type 0} (R : X → X → Ordering) (xs ys : List X) → IsAscending R xs → IsAscending R ys → ((x y : X) → Contains xs x → Contains ys y → R x y ≡ Less) → IsAscending R (xs ++ ys)
ascending_append R xs ys up vp between i j d lt le = elim (cases_lt j (length xs)) [
  | inl both ↦ rw (get_or_append_left xs ys d i (omega arith), get_or_append_left xs ys d j both) (up i j d lt both)
  | inr from ↦
      let len = length-append xs ys in
      rw (get_or-append_right xs ys (length xs) j d refl from) (elim (cases_lt i (length xs)) [
        | inl first ↦ rw (get_or_append_left xs ys d i first)
            (between (get_or xs i d) (get_or ys (j - length xs) d) (Contains-get_or xs i d first) (Contains-get_or ys (j - length xs) d (omega (arith, len))))
        | inr second ↦ rw (get_or-append_right xs ys (length xs) i d refl second) (vp (i - length xs) (j - length xs) d (omega (arith, len)) (omega (arith, len)))
      ])
]

-- the elements of a list, each changed by f, are appended one after another
pub appended_more : {X Y : Type 0} (f : X → Y) (old list list' : List Y) (xs : List X) (i : ℕ) (x : X) → list ≡ old ++ map f (take i xs) → list' ≡ list ++ f x ∷ [] → i < length xs → x ≡ get_or xs i x
    → list' ≡ old ++ map f (take (i + 1) xs)
appended_more f old list list' xs i x before is lt at =
    is ∙ ap (λ l. l ++ f x ∷ []) before ∙ append_assoc old (map f (take i xs)) (f x ∷ [])
    ∙ ap (λ l. old ++ l) (sym (map_more f xs i x lt ∙ ap (λ v. map f (take i xs) ++ f v ∷ []) (sym at)))

-- the keys of a map's entries, taken one after another
pub keys_more : {K X : Type 0} (keys : List K) (entries rest rest' : List (K × X)) (k : K) (x : X) → keys ++ keys_of rest ≡ keys_of entries → rest ≡ (k, x) ∷ rest' → (keys ++ k ∷ []) ++ keys_of rest' ≡ keys_of entries
keys_more keys entries rest rest' k x before is = append_assoc keys (k ∷ []) (keys_of rest') ∙ ap (λ r. keys ++ keys_of r) (sym is) ∙ before

pub keys_all : {K X : Type 0} (keys : List K) (entries rest : List (K × X)) → keys ++ keys_of rest ≡ keys_of entries → rest ≡ [] → keys ≡ keys_of entries
keys_all keys entries rest before is = sym (append-nil keys) ∙ ap (λ r. keys ++ keys_of r) (sym is) ∙ before

module _ {X : Type 0} {R : X → X → Ordering} (o : IsTotalOrder R) where
  not_less : (x : X) → R x x ≡ Less → ⊥
  not_less x e = let f : Less ≡ Greater = sym e ∙ o.antisymm x x ∙ ap ordering_reverse e in cc

  not_greater : (x : X) → R x x ≡ Greater → ⊥
  not_greater x e = let f : Greater ≡ Less = sym e ∙ o.antisymm x x ∙ ap ordering_reverse e in cc

  pub gap_lacks : (x : X) (list : List X) (at : ℕ) → IsGapFor R x list at → Contains list x → ⊥
  gap_lacks x list at gap (k, lt, e) = elim (cases_lt k at) [
    | inl before ↦ not_less x (subst (λ y. R y x ≡ Less) e (gap.below k x (omega arith) before))
    | inr from ↦ not_greater x (subst (λ y. R y x ≡ Greater) e (gap.above k x from lt))
  ]

  pub found_exactly : (x : X) (list : List X) (r : Result ℕ ℕ) → IfOk r (λ at. HasAt list at x) → IfErr r (λ at. IsGapFor R x list at) → IsTrue (is_ok r) ↔ Contains list x
  found_exactly x list (Ok at) here gap = (λ _. (at, here.within, here.is x), λ _. refl)
  found_exactly x list (Err at) here gap = (λ t. absurd (true≢false (sym t)), λ there. absurd (gap_lacks x list at gap there))

  pub ascending_at_gap : (xs : List X) (i : ℕ) (x : X) → IsAscending R xs → IsGapFor R x xs i → IsAscending R (insert xs i x)
  ascending_at_gap xs i x up gap = ascending_insert o xs i x up gap.within gap.below gap.above

  pub takes_none : (x : X) (list : List X) → (Contains list x → ⊥) → TakesAway x list list
  takes_none x list lacks y = (λ here. (here, λ e. lacks (subst (Contains list) (sym e) here)), λ h. h.0)

  apart : (xs : List X) (i j : ℕ) (x : X) → IsAscending R xs → ((d : X) → get_or xs i d ≡ x) → i < length xs → j < length xs → ((i ≡ j) → ⊥) → get_or xs j x ≡ x → ⊥
  apart xs i j x up at li lj other e = elim (cases_lt i j) [
    | inl before ↦ not_less x (subst (λ y. R x y ≡ Less) e (subst (λ y. R y (get_or xs j x) ≡ Less) (at x) (up i j x before lj)))
    | inr from ↦ not_less x (subst (λ y. R x y ≡ Less) (at x) (subst (λ y. R y (get_or xs i x) ≡ Less) e (up j i x (omega arith) li)))
  ]

  pub takes_remove : (xs : List X) (i : ℕ) (x : X) → IsAscending R xs → HasAt xs i x → TakesAway x xs (remove xs i)
  takes_remove xs i x up here y = (
    λ there. elim (cases_lt there.0 i) [
      | inl before ↦
          let e : get_or xs there.0 y ≡ y = sym (get_or-remove_below xs i y there.0 before here.within) ∙ there.2 in
          ((there.0, omega (arith, here.within), e), λ same. apart xs i there.0 x up here.is here.within (omega (arith, here.within)) (λ z. omega (arith, before)) (subst (λ v. get_or xs there.0 v ≡ v) (sym same) e))
      | inr from ↦
          let len = length-remove xs i here.within in
          let e : get_or xs (there.0 + 1) y ≡ y = sym (get_or-remove_above xs i y there.0 from here.within) ∙ there.2 in
          ((there.0 + 1, omega (arith, there.1, len), e), λ same. apart xs i (there.0 + 1) x up here.is here.within (omega (arith, there.1, len)) (λ z. omega (arith, from)) (subst (λ v. get_or xs (there.0 + 1) v ≡ v) (sym same) e))
    ],
    λ h. let k = h.0.0 in
        let len = length-remove xs i here.within in
        elim (cases_lt k i) [
          | inl before ↦ (k, omega (arith, here.within, len), get_or-remove_below xs i y k before here.within ∙ h.0.2)
          | inr from ↦ elim (cases_eq k i) [
            | inl is ↦ absurd (h.1 (sym (here.is y) ∙ ap (λ j. get_or xs j y) (sym is) ∙ h.0.2))
            | inr other ↦
                let back : k - 1 + 1 ≡ k = omega arith in
                (k - 1, omega (arith, h.0.1, len), get_or-remove_above xs i y (k - 1) (omega arith) here.within ∙ ap (λ j. get_or xs j y) back ∙ h.0.2)
          ]
        ],
  )

-- sorting a list and dropping repeated members gives the ascending list of its members
pub listed_from : {X : Type 0} {R : X → X → Ordering} (o : IsTotalOrder R) {E : X → X → Bool} (e : IsEquivalence E) (ties : (x y : X) → E x y ≡ eq_by_cmp R x y) (same : (x y : X) → E x y ≡ true → x ≡ y)
    (P : X → Type 0) (xs ys zs : List X) → AddsAll P [] xs → IsPermutation xs ys → IsSorted R ys → IsFiltered (DiffersFromLast E) [] ys zs → IsListOf R P zs
listed_from {X} {R} o {E} e ties same P xs ys zs adds moved sorted kept =
    let is : zs ≡ dedup E ys = dedup_is E ys zs kept in
    record {
      ascending = subst (IsAscending R) (sym is) (ascending_from_sorted R (dedup E ys) (IsStrictlySortedBy-dedup o ties ys sorted));
      exact = λ x. (
        λ h. elim ((adds x).0 (Contains-permutation ys xs x (IsPermutation-sym xs ys moved) (Contains-from_dedup E ys x (subst (λ l. Contains l x) is h)))) [
          | inl none ↦ absurd (lacks_nil x none)
          | inr p ↦ p
        ],
        λ p. subst (λ l. Contains l x) (sym is) (Contains-dedup e same ys x (Contains-permutation xs ys x moved ((adds x).1 (inr p)))),
      );
    }
