-- The positions of numbers among the live ones, and how the ranks of a tiling follow from these positions.
use Rattle.std.proofs.Common.{Bool, List, None, Option, Some, [], ap, arith, cond, eqb, false, get_or, inl, inr, length, map, nat_lt, refl, set, subst, suc, sym, take, true, zero, ℕ, ◌+◌, ◌++◌, ◌<◌, ◌∙◌, ◌∷◌, ◌≡◌, ◌≢◌, ◌≤◌}
use Rattle.std.proofs.lemmas.Bool.{cases_eq, eqb-true, ltb-true, ne_eqb}
use Rattle.std.proofs.lemmas.List.{take_more}
use Rattle.std.proofs.lemmas.Map.Keys.{IsDistinct-from_apart}
use Rattle.std.proofs.lemmas.Map.Steps.{length-le_from_distinct_below}
use Rattle.std.proofs.lemmas.List.Elements.{filter_map-append}
use Rattle.std.proofs.lemmas.List.{get_or-map, length-map}
use Rattle.std.proofs.lemmas.List.Elements.{All-get_or}
use Rattle.std.specs.Cmp.Lexicographic.{slice_cmp}
use Rattle.std.specs.List.{All, cons_option, filter_map, list_all, slice_get}
use Rattle.std.specs.Option.{option_flatten, option_to_list}
use Rattle.std.specs.List.Retain.{DiffersFromLast, IsFiltered}
use Rattle.std.specs.List.Sorted.{IsPermutation, IsSorted, IsSortedBy}
use Rattle.std.specs.Ordering.{is_lt, nat_cmp}
use Rattle.poly_tiling.specs.Lists.{ascending, distinct, mem}
use Rattle.poly_tiling.specs.Puzzle.{View}
use Rattle.poly_tiling.specs.Names.{WellNamed}
use Rattle.poly_tiling.specs.TilingOrder.{ArePositions, position_at, ranks_from, tiling_cmp}
use Rattle.poly_tiling.proofs.Lists.{In, all_in, any_in, in_mem, mem_in}
use Rattle.poly_tiling.proofs.Ascending.{ascending_from, ascending_same, distinct_rest, not_head}
use Rattle.poly_tiling.proofs.Contained.{at_in, get_in}
use Rattle.poly_tiling.proofs.Ranks.{ranks_compare_lem, ranks_low}
use Rattle.poly_tiling.proofs.Sorting.{sorted_ascend, sorted_same}

-- ---- the table

set_here : {X : Type 0} (xs : List X) (m : ℕ) (x : X) → m < length xs → slice_get (set xs m x) m ≡ Some x
set_here [] m x l = absurd (omega arith)
set_here (y ∷ ys) zero x l = refl
set_here (y ∷ ys) (suc m) x l = set_here ys m x (omega arith)

set_there : {X : Type 0} (xs : List X) (m n : ℕ) (x : X) → m ≢ n → slice_get (set xs m x) n ≡ slice_get xs n
set_there [] m n x d = refl
set_there (y ∷ ys) zero zero x d = absurd (d refl)
set_there (y ∷ ys) zero (suc n) x d = refl
set_there (y ∷ ys) (suc m) zero x d = refl
set_there (y ∷ ys) (suc m) (suc n) x d = set_there ys m n x (λ e. d (ap suc e))

take_low : {X : Type 0} (i : ℕ) (xs : List X) (k : ℕ) (x : X) → slice_get (take i xs) k ≡ Some x → k < i
take_low zero xs k x e = absurd (nothing x e)
  where
    nothing : {X : Type 0} (x : X) → None ≡ Some x → ⊥
    nothing x e = cc
take_low (suc i) [] k x e = absurd (nothing x e)
  where
    nothing : {X : Type 0} (x : X) → None ≡ Some x → ⊥
    nothing x e = cc
take_low (suc i) (y ∷ ys) zero x e = omega arith
take_low (suc i) (y ∷ ys) (suc k) x e = let l = take_low i ys k x e in omega arith

take_get : {X : Type 0} (i : ℕ) (xs : List X) (k : ℕ) → k < i → slice_get (take i xs) k ≡ slice_get xs k
take_get zero xs k l = absurd (omega arith)
take_get (suc i) [] k l = refl
take_get (suc i) (y ∷ ys) zero l = refl
take_get (suc i) (y ∷ ys) (suc k) l = take_get i ys k (omega arith)

get_is : {X : Type 0} (xs : List X) (i : ℕ) (d : X) → i < length xs → slice_get xs i ≡ Some (get_or xs i d)
get_is [] i d l = absurd (omega arith)
get_is (x ∷ xs) zero d l = refl
get_is (x ∷ xs) (suc i) d l = get_is xs i d (omega arith)

one_at : (xs : List ℕ) → distinct xs ≡ true → (i j n : ℕ) → slice_get xs i ≡ Some n → slice_get xs j ≡ Some n → i ≡ j
one_at [] h i j n a b = cc
one_at (x ∷ xs) h zero zero n a b = refl
one_at (x ∷ xs) h zero (suc j) n a b = let e : x ≡ n = cc in absurd (not_head x xs h (subst (λ z. In z xs) (sym e) (get_in xs j n b)))
one_at (x ∷ xs) h (suc i) zero n a b = let e : x ≡ n = cc in absurd (not_head x xs h (subst (λ z. In z xs) (sym e) (get_in xs i n a)))
one_at (x ∷ xs) h (suc i) (suc j) n a b = ap suc (one_at xs (distinct_rest x xs h) i j n a b)

same_position : (i k : ℕ) → Some (Some i) ≡ Some (Some k) → i ≡ k
same_position i k e = cc

-- one more number gets its position
pub mark_more : (live : List ℕ) (table : List (Option ℕ)) (i d : ℕ) → distinct live ≡ true → i < length live → get_or live i d < length table →
    ArePositions (take i live) table → ArePositions (take (i + 1) live) (set table (get_or live i d) (Some i))
mark_more live table i d once low fits marked n k = elim (cases_eq (get_or live i d) n) [
  | inl e ↦ (
    λ h.
        let is : i ≡ k = same_position i k (sym (set_here table (get_or live i d) (Some i) fits) ∙ ap (λ m. slice_get (set table (get_or live i d) (Some i)) m) e ∙ h) in
        take_get (i + 1) live k (omega arith) ∙ ap (λ m. slice_get live m) (sym is) ∙ get_is live i d low ∙ ap Some e,
    λ h.
        let l = take_low (i + 1) live k n h in
        let is : i ≡ k = one_at live once i k n (get_is live i d low ∙ ap Some e) (sym (take_get (i + 1) live k l) ∙ h) in
        ap (λ m. slice_get (set table (get_or live i d) (Some i)) m) (sym e) ∙ set_here table (get_or live i d) (Some i) fits ∙ ap (λ m. Some (Some m)) is,
  )
  | inr d' ↦ (
    λ h.
        let there = (marked n k).0 (sym (set_there table (get_or live i d) n (Some i) d') ∙ h) in
        let l = take_low i live k n there in
        take_get (i + 1) live k (omega arith) ∙ sym (take_get i live k l) ∙ there,
    λ h.
        let l = take_low (i + 1) live k n h in
        let at = sym (take_get (i + 1) live k l) ∙ h in
        elim (cases_eq i k) [
          | inl is ↦ absurd (d' (some_is (sym (get_is live i d low) ∙ ap (λ m. slice_get live m) is ∙ at)))
          | inr other ↦ set_there table (get_or live i d) n (Some i) d' ∙ (marked n k).1 (take_get i live k (below_one i k l other) ∙ at)
        ],
  )
]
  where
    some_is : {a b : ℕ} → Some a ≡ Some b → a ≡ b
    some_is e = cc

    below_one : (i k : ℕ) → k < i + 1 → i ≢ k → k < i
    below_one i k l o = elim (cases_eq i k) [ inl e ↦ absurd (o e) | inr _ ↦ omega arith ]

-- ---- ranks

ranks_up_at : (s : ℕ) (ns T : List ℕ) → ascending (ranks_from (s + 1) ns T) ≡ true → (b : Bool) → ascending (cond b (s ∷ ranks_from (s + 1) ns T) (ranks_from (s + 1) ns T)) ≡ true
ranks_up_at s ns T ih true = ascending_from s (ranks_from (s + 1) ns T) (λ k i. let l = ranks_low (s + 1) ns T k i in omega arith) ih
ranks_up_at s ns T ih false = ih

pub ranks_up : (s : ℕ) (ns T : List ℕ) → ascending (ranks_from s ns T) ≡ true
ranks_up s [] T = refl
ranks_up s (n ∷ ns) T = ranks_up_at s ns T (ranks_up (s + 1) ns T) (mem T n)

-- k is the position of one of the tiling's numbers, if positions are counted from s
record IsRank (s : ℕ) (ns T : List ℕ) (k : ℕ) : Type 0 where
  position : ℕ
  counted : k ≡ s + position
  number : ℕ
  there : slice_get ns position ≡ Some number
  has : mem T number ≡ true

later : (s n : ℕ) (ns T : List ℕ) (k : ℕ) → IsRank (s + 1) ns T k → IsRank s (n ∷ ns) T k
later s n ns T k r = record { position = suc r.position; counted = let e = r.counted in omega (arith, e); number = r.number; there = r.there; has = r.has }

ranks_is_at : (s n : ℕ) (ns T : List ℕ) (k : ℕ) → (In k (ranks_from (s + 1) ns T) → IsRank (s + 1) ns T k) → (b : Bool) → mem T n ≡ b →
    In k (cond b (s ∷ ranks_from (s + 1) ns T) (ranks_from (s + 1) ns T)) → IsRank s (n ∷ ns) T k
ranks_is_at s n ns T k ih true e (inl is) = record { position = zero; counted = omega (arith, is); number = n; there = refl; has = e }
ranks_is_at s n ns T k ih true e (inr i) = later s n ns T k (ih i)
ranks_is_at s n ns T k ih false e i = later s n ns T k (ih i)

ranks_is : (s : ℕ) (ns T : List ℕ) (k : ℕ) → In k (ranks_from s ns T) → IsRank s ns T k
ranks_is s [] T k i = absurd i
ranks_is s (n ∷ ns) T k i = ranks_is_at s n ns T k (ranks_is (s + 1) ns T k) (mem T n) refl i

rank_in_at : (s : ℕ) (ns T : List ℕ) (k : ℕ) → In k (ranks_from (s + 1) ns T) → (b : Bool) → In k (cond b (s ∷ ranks_from (s + 1) ns T) (ranks_from (s + 1) ns T))
rank_in_at s ns T k i true = inr i
rank_in_at s ns T k i false = i

rank_here_at : (s : ℕ) (ns T : List ℕ) (b : Bool) → b ≡ true → In s (cond b (s ∷ ranks_from (s + 1) ns T) (ranks_from (s + 1) ns T))
rank_here_at s ns T true e = inl refl
rank_here_at s ns T false e = cc

is_rank : (s : ℕ) (ns T : List ℕ) (j n k : ℕ) → slice_get ns j ≡ Some n → mem T n ≡ true → k ≡ s + j → In k (ranks_from s ns T)
is_rank s [] T j n k e h c = cc
is_rank s (m ∷ ns) T zero n k e h c = let is : m ≡ n = cc in subst (λ z. In z (ranks_from s (m ∷ ns) T)) (omega arith) (rank_here_at s ns T (mem T m) (ap (λ z. mem T z) is ∙ h))
is_rank s (m ∷ ns) T (suc j) n k e h c = rank_in_at s ns T k (is_rank (s + 1) ns T j n k e h (omega arith)) (mem T m)

-- ---- the positions of some numbers

some_in : {X Y : Type 0} (f : X → Option Y) (y : Y) (ys : List Y) (o : Option Y) → In y ys → In y (cons_option o ys)
some_in f y ys None i = i
some_in f y ys (Some z) i = inr i

in_filter_map : {X Y : Type 0} (f : X → Option Y) (xs : List X) (x : X) (y : Y) → In x xs → f x ≡ Some y → In y (filter_map f xs)
in_filter_map f [] x y i e = absurd i
in_filter_map f (z ∷ xs) x y (inl is) e = rw (ap f is ∙ e) (inl refl)
in_filter_map f (z ∷ xs) x y (inr i) e = some_in f y (filter_map f xs) (f z) (in_filter_map f xs x y i e)

filter_map_in_at : {X Y : Type 0} (f : X → Option Y) (z : X) (xs : List X) (y : Y) (o : Option Y) → f z ≡ o → (In y (filter_map f xs) → (x : X) × In x xs × (f x ≡ Some y)) →
    In y (cons_option o (filter_map f xs)) → (x : X) × In x (z ∷ xs) × (f x ≡ Some y)
filter_map_in_at f z xs y None e ih i = let r = ih i in (r.0, inr r.1, r.2)
filter_map_in_at f z xs y (Some w) e ih (inl is) = (z, inl refl, e ∙ ap Some is)
filter_map_in_at f z xs y (Some w) e ih (inr i) = let r = ih i in (r.0, inr r.1, r.2)

filter_map_in : {X Y : Type 0} (f : X → Option Y) (xs : List X) (y : Y) → In y (filter_map f xs) → (x : X) × In x xs × (f x ≡ Some y)
filter_map_in f [] y i = absurd i
filter_map_in f (z ∷ xs) y i = filter_map_in_at f z xs y (f z) refl (filter_map_in f xs y) i

position_from_at : (o : Option (Option ℕ)) (k : ℕ) → option_flatten o ≡ Some k → o ≡ Some (Some k)
position_from_at None k e = cc
position_from_at (Some o) k e = ap Some e

position_from : (table : List (Option ℕ)) (n k : ℕ) → position_at table n ≡ Some k → slice_get table n ≡ Some (Some k)
position_from table n k e = position_from_at (slice_get table n) k e

position_to : (table : List (Option ℕ)) (n k : ℕ) → slice_get table n ≡ Some (Some k) → position_at table n ≡ Some k
position_to table n k e = ap (λ o. option_flatten o) e

position_is : (k j : ℕ) → k ≡ 0 + j → k ≡ j
position_is k j e = omega arith

-- the positions of a tiling's numbers, sorted and each once, are the ranks of the tiling
pub ranks_are : (live T : List ℕ) (table : List (Option ℕ)) (sorted out : List ℕ) → ArePositions live table → IsPermutation (filter_map (position_at table) T) sorted → IsSorted nat_cmp sorted →
    IsFiltered (DiffersFromLast eqb) [] sorted out → out ≡ ranks_from 0 live T
ranks_are live T table sorted out marked moved up kept = ascending_same out (ranks_from 0 live T) (sorted_ascend sorted out up kept) (ranks_up 0 live T)
    (λ k i.
    let r = filter_map_in (position_at table) T k (mem_in _ k (sym (sorted_same (filter_map (position_at table) T) sorted out moved kept k) ∙ in_mem out k i)) in
    is_rank 0 live T k r.0 k ((marked r.0 k).0 (position_from table r.0 k r.2)) (in_mem T r.0 r.1) (omega arith))
    (λ k i.
    let r = ranks_is 0 live T k i in
    let there : slice_get live k ≡ Some r.number = (let e = r.counted in ap (λ m. slice_get live m) (position_is k r.position e) ∙ r.there) in
    mem_in out k (sorted_same (filter_map (position_at table) T) sorted out moved kept k
    ∙ in_mem (filter_map (position_at table) T) k (in_filter_map (position_at table) T r.number k (mem_in T r.number r.has) (position_to table r.number k ((marked r.number k).1 there)))))

one_option : {Y : Type 0} (ys : List Y) (o : Option Y) → ys ++ cons_option o [] ≡ ys ++ option_to_list o
one_option ys None = refl
one_option ys (Some y) = refl

-- taking one more element adds what f gives for this element, if f gives anything
pub positions_more : {X Y : Type 0} (f : X → Option Y) (xs : List X) (i : ℕ) (d : X) → i < length xs → filter_map f (take (i + 1) xs) ≡ filter_map f (take i xs) ++ option_to_list (f (get_or xs i d))
positions_more f xs i d l = rw (take_more xs i d l, filter_map-append f (take i xs) (get_or xs i d ∷ [])) (one_option (filter_map f (take i xs)) (f (get_or xs i d)))

-- if each number of a list is below the count, so is the number at index i
pub number_fits : (list : List ℕ) (count i d : ℕ) → list_all (λ n. nat_lt n count) list ≡ true → i < length list → get_or list i d < count
number_fits list count i d below l = ltb-true (get_or list i d) count (all_in (λ n. nat_lt n count) list below (get_or list i d) (at_in list i d l))

in_small : (n : ℕ) (list : List ℕ) → ((k : ℕ) → k < length list → get_or list k 0 < n) → (x : ℕ) → In x list → x < n
in_small n [] small x i = absurd i
in_small n (y ∷ list) small x (inl e) = let s = small 0 (omega arith) in omega (arith, s, e)
in_small n (y ∷ list) small x (inr i) = in_small n list (λ k l. small (suc k) (omega (arith, l))) x i

-- a list without repeats, of numbers below n, has at most n numbers
pub count_fits : (list : List ℕ) (n : ℕ) → distinct list ≡ true → ((k : ℕ) → k < length list → get_or list k 0 < n) → length list ≤ n
count_fits list n once small = length-le_from_distinct_below list n
    (IsDistinct-from_apart eqb list
    (λ i j d l m. ne_eqb (get_or list i d) (get_or list j d)
    (λ e. let is = one_at list once i j (get_or list j d) (get_is list i d (omega (arith, l, m)) ∙ ap Some e) (get_is list j d m) in omega (arith, l, is))))
    (λ q h. let r = any_in (eqb q) list h in let e = eqb-true q r.0 r.2 in let s = in_small n list small r.0 r.1 in omega (arith, e, s))

-- tilings that are in the order of their ranks are in the order of tilings
pub sorted_by_ranks : {R : Type 0} (v : View) (tiling : R → List ℕ) (ranks : R → List ℕ) (rs : List R) → WellNamed v → All (λ r. ranks r ≡ ranks_from 0 v.live (tiling r)) rs →
    IsSortedBy (λ x y. is_lt (slice_cmp nat_cmp (ranks x) (ranks y))) rs → IsSorted (tiling_cmp v) (map tiling rs)
sorted_by_ranks v tiling ranks [] wn all up k d l m = absurd (omega arith)
sorted_by_ranks v tiling ranks (r ∷ rs) wn all up k d l m =
    let n = length-map (r ∷ rs) tiling in
    let a = All-get_or (λ r. ranks r ≡ ranks_from 0 v.live (tiling r)) (r ∷ rs) k r (omega (arith, n, m)) all in
    let b = All-get_or (λ r. ranks r ≡ ranks_from 0 v.live (tiling r)) (r ∷ rs) (k + 1) r (omega (arith, n, m)) all in
    rw (get_or-map tiling (r ∷ rs) k r d (omega (arith, n, m)), get_or-map tiling (r ∷ rs) (k + 1) r d (omega (arith, n, m)))
    (ap is_lt (sym (ranks_compare_lem v (tiling (get_or (r ∷ rs) (k + 1) r)) (tiling (get_or (r ∷ rs) k r)) wn))
    ∙ ap (λ x. is_lt (slice_cmp nat_cmp x (ranks_from 0 v.live (tiling (get_or (r ∷ rs) k r))))) (sym b)
    ∙ ap (λ x. is_lt (slice_cmp nat_cmp (ranks (get_or (r ∷ rs) (k + 1) r)) x)) (sym a)
    ∙ up k r (omega arith) (omega (arith, n, m)))
