-- Two lists in order are merged into one, part by part.
use Rattle.std.proofs.Common.{Bool, List, [], ap, drop, false, get_or, inl, inr, length, refl, subst, sym, take, true, ℕ, ◌++◌, ◌+◌, ◌<◌, ◌∙◌, ◌∷◌, ◌≡◌, ◌≤◌, append_assoc, arith}
use Rattle.std.specs.Cmp.{IsStrictWeakOrder}
use Rattle.std.specs.List.{AllPairs, AllWithin}
use Rattle.std.specs.List.Sorted.{IsPartitionedBy, IsPermutation}
use Rattle.std.proofs.lemmas.Bool.{both_ways, cases_Bool, cases_lt}
use Rattle.std.proofs.lemmas.List.{append-nil, drop_more, get_or-drop, get_or-take, length-drop, length-take, take_all, take_more}
use Rattle.std.proofs.lemmas.List.Sorted.{IsPermutation-append, IsPermutation-append_comm, IsPermutation-refl, IsPermutation-trans}
use Rattle.poly_tiling.proofs.Contained.{in_contains, pairs_cons, pairs_head, pairs_none, pairs_rest}
use Rattle.poly_tiling.proofs.Lists.{In, in_append_cases, in_append_left, in_append_right}

-- ---- pairs of two lists

module _ {X : Type 0} (R : X → X → Type 0) where
  pub pairs_append : (xs ys : List X) → AllPairs R xs → AllPairs R ys → ((x y : X) → In x xs → In y ys → R x y) → AllPairs R (xs ++ ys)
  pairs_append [] ys a b far = b
  pairs_append (x ∷ xs) ys a b far = pairs_cons R x (xs ++ ys)
      (λ y i. elim (in_append_cases y xs ys i) [
        | inl j ↦ pairs_head R x xs a y j
        | inr j ↦ far x y (inl refl) j
      ])
      (pairs_append xs ys (pairs_rest R x xs a) b (λ z y i j. far z y (inr i) j))

  pub pairs_left : (xs ys : List X) → AllPairs R (xs ++ ys) → AllPairs R xs
  pairs_left [] ys h = pairs_none R
  pairs_left (x ∷ xs) ys h = pairs_cons R x xs (λ y i. pairs_head R x (xs ++ ys) h y (in_append_left y xs ys i)) (pairs_left xs ys (pairs_rest R x (xs ++ ys) h))

  pub pairs_right : (xs ys : List X) → AllPairs R (xs ++ ys) → AllPairs R ys
  pairs_right [] ys h = h
  pairs_right (x ∷ xs) ys h = pairs_right xs ys (pairs_rest R x (xs ++ ys) h)

  pub pairs_across : (xs ys : List X) → AllPairs R (xs ++ ys) → (x y : X) → In x xs → In y ys → R x y
  pairs_across [] ys h x y i j = absurd i
  pairs_across (z ∷ xs) ys h x y (inl same) j = subst (λ w. R w y) same (pairs_head R z (xs ++ ys) h y (in_append_right y xs ys j))
  pairs_across (z ∷ xs) ys h x y (inr i) j = pairs_across xs ys (pairs_rest R z (xs ++ ys) h) x y i j

-- ---- merging

-- the merged part of both lists is in order, and nothing that is left comes before any of it
pub record IsMerging (lt : ℕ → ℕ → Bool) (kept fresh : List ℕ) (i : ℕ) (rest live : List ℕ) : Type 0 where
  pub done : List ℕ
  pub all : kept ≡ done ++ rest
  pub moved : IsPermutation (done ++ take i fresh) live
  pub before_rest : AllPairs (λ m n. lt n m ≡ false) (live ++ rest)
  pub before_fresh : AllPairs (λ m n. lt n m ≡ false) (live ++ drop i fresh)

pub merging_begins : (lt : ℕ → ℕ → Bool) (kept fresh live : List ℕ) → live ≡ [] → AllPairs (λ m n. lt n m ≡ false) kept → AllPairs (λ m n. lt n m ≡ false) fresh → IsMerging lt kept fresh 0 kept live
merging_begins lt kept fresh live none a b = record {
  done = [];
  all = refl;
  moved = subst (λ l. IsPermutation [] l) (sym none) (IsPermutation-refl []);
  before_rest = subst (λ l. AllPairs (λ m n. lt n m ≡ false) (l ++ kept)) (sym none) a;
  before_fresh = subst (λ l. AllPairs (λ m n. lt n m ≡ false) (l ++ fresh)) (sym none) b;
}

-- swapping the middle two parts keeps the elements
swapped : (a b c d : List ℕ) → IsPermutation ((a ++ b) ++ (c ++ d)) ((a ++ c) ++ (b ++ d))
swapped a b c d =
    let inner : IsPermutation ((b ++ c) ++ d) ((c ++ b) ++ d) = IsPermutation-append (b ++ c) (c ++ b) d d (IsPermutation-append_comm b c) (IsPermutation-refl d) in
    let outer : IsPermutation (a ++ ((b ++ c) ++ d)) (a ++ ((c ++ b) ++ d)) = IsPermutation-append a a ((b ++ c) ++ d) ((c ++ b) ++ d) (IsPermutation-refl a) inner in
    let from : a ++ ((b ++ c) ++ d) ≡ (a ++ b) ++ (c ++ d) = ap (λ l. a ++ l) (append_assoc b c d) ∙ sym (append_assoc a b (c ++ d)) in
    let to : a ++ ((c ++ b) ++ d) ≡ (a ++ c) ++ (b ++ d) = ap (λ l. a ++ l) (append_assoc c b d) ∙ sym (append_assoc a c (b ++ d)) in
    subst (λ l. IsPermutation ((a ++ b) ++ (c ++ d)) l) to (subst (λ l. IsPermutation l (a ++ ((c ++ b) ++ d))) from outer)

-- one step moves the kept numbers that come before the next fresh number, and then the fresh number
pub merging_goes_on : (lt : ℕ → ℕ → Bool) → IsStrictWeakOrder lt → (kept fresh : List ℕ) (i : ℕ) (rest live : List ℕ) (n : ℕ) (chunk after live' : List ℕ) → IsMerging lt kept fresh i rest live →
    i < length fresh → n ≡ get_or fresh i n → rest ≡ chunk ++ after → ((x : ℕ) → In x chunk → lt x n ≡ true) → ((y : ℕ) → In y after → lt y n ≡ false) → live' ≡ (live ++ chunk) ++ n ∷ [] →
    IsMerging lt kept fresh (i + 1) after live'
merging_goes_on lt o kept fresh i rest live n chunk after live' w low is parts smaller greater grows =
    let R : ℕ → ℕ → Type 0 = λ a b. lt b a ≡ false in
    let next : drop i fresh ≡ n ∷ drop (i + 1) fresh = drop_more fresh i n low ∙ ap (λ z. z ∷ drop (i + 1) fresh) (sym is) in
    let more : take (i + 1) fresh ≡ take i fresh ++ n ∷ [] = take_more fresh i n low ∙ ap (λ z. take i fresh ++ z ∷ []) (sym is) in
    let among : AllPairs R (live ++ n ∷ drop (i + 1) fresh) = subst (λ l. AllPairs R (live ++ l)) next w.before_fresh in
    let along : AllPairs R ((live ++ chunk) ++ after) = subst (λ l. AllPairs R l) (ap (λ l. live ++ l) parts ∙ sym (append_assoc live chunk after)) w.before_rest in
    let tail : AllPairs R (n ∷ drop (i + 1) fresh) = pairs_right R live (n ∷ drop (i + 1) fresh) among in
    let to_n : (x : ℕ) → In x (live ++ chunk) → R x n = λ x h. elim (in_append_cases x live chunk h) [
      | inl j ↦ pairs_across R live (n ∷ drop (i + 1) fresh) among x n j (inl refl)
      | inr j ↦ o.one_way x n (smaller x j)
    ] in
    let from_n : (y : ℕ) → In y (drop (i + 1) fresh) → R n y = λ y h. pairs_head R n (drop (i + 1) fresh) tail y h in
    let one : AllPairs R (n ∷ []) = pairs_cons R n [] (λ y h. absurd h) (pairs_none R) in
    let here : AllPairs R ((live ++ chunk) ++ n ∷ []) = pairs_append R (live ++ chunk) (n ∷ []) (pairs_left R (live ++ chunk) after along) one (λ x y h j. elim j [
      | inl same ↦ subst (λ z. R x z) same (to_n x h)
      | inr none ↦ absurd none
    ]) in
    record {
      done = w.done ++ chunk;
      all = w.all ∙ ap (λ l. w.done ++ l) parts ∙ sym (append_assoc w.done chunk after);
      moved =
          subst (λ l. IsPermutation ((w.done ++ chunk) ++ take (i + 1) fresh) l) (sym (grows ∙ append_assoc live chunk (n ∷ [])))
          (subst (λ l. IsPermutation ((w.done ++ chunk) ++ l) (live ++ (chunk ++ n ∷ []))) (sym more)
          (IsPermutation-trans ((w.done ++ chunk) ++ (take i fresh ++ n ∷ [])) ((w.done ++ take i fresh) ++ (chunk ++ n ∷ [])) (live ++ (chunk ++ n ∷ []))
          (swapped w.done chunk (take i fresh) (n ∷ []))
          (IsPermutation-append (w.done ++ take i fresh) live (chunk ++ n ∷ []) (chunk ++ n ∷ []) w.moved (IsPermutation-refl (chunk ++ n ∷ [])))));
      before_rest = subst (λ l. AllPairs R (l ++ after)) (sym grows) (pairs_append R ((live ++ chunk) ++ n ∷ []) after here (pairs_right R (live ++ chunk) after along) (λ x y h j. elim (in_append_cases x (live ++ chunk) (n ∷ []) h) [
        | inl k ↦ pairs_across R (live ++ chunk) after along x y k j
        | inr k ↦ elim k [ inl same ↦ subst (λ z. R z y) same (greater y j) | inr none ↦ absurd none ]
      ]));
      before_fresh = subst (λ l. AllPairs R (l ++ drop (i + 1) fresh)) (sym grows) (pairs_append R ((live ++ chunk) ++ n ∷ []) (drop (i + 1) fresh) here (pairs_rest R n (drop (i + 1) fresh) tail) (λ x y h j. elim (in_append_cases x (live ++ chunk) (n ∷ []) h) [
        | inl k ↦ o.chain y n x (from_n y j) (to_n x k)
        | inr k ↦ elim k [ inl same ↦ subst (λ z. R z y) same (from_n y j) | inr none ↦ absurd none ]
      ]));
    }

-- the last step moves the kept numbers that are left
pub merging_ends : (lt : ℕ → ℕ → Bool) (kept fresh : List ℕ) (i : ℕ) (rest live live' : List ℕ) → IsMerging lt kept fresh i rest live → length fresh ≤ i → live' ≡ live ++ rest →
    IsPermutation (kept ++ fresh) live' × AllPairs (λ m n. lt n m ≡ false) live'
merging_ends lt kept fresh i rest live live' w le grows =
    let moved : IsPermutation (w.done ++ fresh) live = subst (λ l. IsPermutation (w.done ++ l) live) (take_all i fresh le) w.moved in
    let both : IsPermutation ((w.done ++ fresh) ++ rest) (live ++ rest) = IsPermutation-append (w.done ++ fresh) live rest rest moved (IsPermutation-refl rest) in
    let turn : IsPermutation ((w.done ++ rest) ++ (fresh ++ [])) ((w.done ++ fresh) ++ (rest ++ [])) = swapped w.done rest fresh [] in
    let turned : IsPermutation (kept ++ fresh) ((w.done ++ fresh) ++ rest) =
    subst (λ l. IsPermutation l ((w.done ++ fresh) ++ rest)) (ap (λ l. l ++ fresh) (sym w.all))
    (subst (λ l. IsPermutation ((w.done ++ rest) ++ l) ((w.done ++ fresh) ++ rest)) (append-nil fresh)
    (subst (λ l. IsPermutation ((w.done ++ rest) ++ (fresh ++ [])) ((w.done ++ fresh) ++ l)) (append-nil rest) turn)) in (
      subst (λ l. IsPermutation (kept ++ fresh) l) (sym grows) (IsPermutation-trans (kept ++ fresh) ((w.done ++ fresh) ++ rest) (live ++ rest) turned both),
      subst (λ l. AllPairs (λ m n. lt n m ≡ false) l) (sym grows) w.before_rest,
    )

-- ---- before and after a number

pub parted : (lt : ℕ → ℕ → Bool) → IsStrictWeakOrder lt → (xs : List ℕ) (n : ℕ) → AllPairs (λ x y. lt y x ≡ false) xs → IsPartitionedBy (λ x. lt x n) xs
parted lt o xs n up i j d le low h = elim (cases_lt i j) [
  | inl less ↦ elim (cases_Bool (lt (get_or xs i d) n)) [
    | inl t ↦ t
    | inr f ↦ absurd (both_ways (lt (get_or xs j d) n) (o.chain (get_or xs j d) (get_or xs i d) n (up i j d less low) f) h)
  ]
  | inr more ↦ subst (λ k. lt (get_or xs k d) n ≡ true) (omega arith) h
]

pub taken_are : (P : ℕ → Type 0) (xs : List ℕ) (at : ℕ) → at ≤ length xs → AllWithin P xs 0 at → (x : ℕ) → In x (take at xs) → P x
taken_are P xs at le all x i =
    let r = in_contains (take at xs) x i in
    let before : r.0 < at = omega (arith, length-take at xs, r.1) in
    subst P (sym (get_or-take at xs r.0 x before) ∙ r.2) (all r.0 x (omega arith) before)

pub left_are : (P : ℕ → Type 0) (xs : List ℕ) (at : ℕ) → AllWithin P xs at (length xs) → (x : ℕ) → In x (drop at xs) → P x
left_are P xs at all x i =
    let r = in_contains (drop at xs) x i in
    let low : at + r.0 < length xs = omega (arith, length-drop at xs, r.1) in
    subst P (sym (get_or-drop at xs r.0 x) ∙ r.2) (all (at + r.0) x (omega arith) low)
