-- Counts by listed tiling: how they are raised, and what they say of the tilings.
use Rattle.std.proofs.Common.{Bool, List, [], ap, arith, cond, eqb, false, get_or, inl, inr, leb, length, ltb, min, not, refl, replicate, set, subst, suc, sym, take, true, zero, ℕ, ◌&&◌, ◌||◌, ◌+◌, ◌<◌, ◌∙◌, ◌∷◌, ◌≡◌, ◌≤◌}
use Rattle.std.proofs.Math.Nat.{min-eq_left, min-eq_right, min-le_right}
use Rattle.std.proofs.lemmas.Bool.{and_parts, cases_eq, cases_lt, eq-eqb, le-leb, le-ltb, leb-true, lt-leb, lt-ltb, ltb-true, ne_eqb, or_right}
use Rattle.std.proofs.lemmas.List.{get_or-replicate, get_or-set_other, get_or-set_same, get_or-take, get_or_past, length-replicate, take_all, take_more}
use Rattle.std.specs.List.{list_all, list_any}
use Rattle.std.specs.Prelude.{nat_le, nat_lt}
use Rattle.poly_tiling.specs.declared.bound.Bound.{Bound}
use Rattle.poly_tiling.specs.declared.item.Item.{Item}
use Rattle.poly_tiling.specs.Lists.{distinct, mem, one, tally}
use Rattle.poly_tiling.specs.Names.{WellNamed}
use Rattle.poly_tiling.specs.Puzzle.{View, bound_in, count, has_item, least, most, same_item}
use Rattle.poly_tiling.proofs.Contained.{at_in}
use Rattle.poly_tiling.proofs.Lists.{all_in, any_append, tally_none}
use Rattle.poly_tiling.proofs.Named.{tally_same_in}
use Rattle.poly_catalogue.specs.Catalogued.{HasFlags}
use Rattle.poly_catalogue.specs.Counts.{AddsCounts, AreCounts, ArePassing, IsCount, between}
use Rattle.poly_catalogue.specs.Listed.{Keeps}
use Rattle.poly_catalogue.specs.Rows.{row}
use Rattle.poly_catalogue.specs.Stays.{fits}
use Rattle.poly_catalogue.proofs.Counted.{IsSwept, swept_all, swept_first, swept_more}

apart_at : (b : Bool) → cond b false true ≡ true → b ≡ false
apart_at true e = cc
apart_at false e = refl

-- a number of a list is not among those before it
fresh : (xs : List ℕ) (k : ℕ) → distinct xs ≡ true → k < length xs → mem (take k xs) (get_or xs k 0) ≡ false
fresh [] k h l = absurd (omega arith)
fresh (x ∷ xs) zero h l = refl
fresh (x ∷ xs) (suc k) h l =
    let p = and_parts (list_all (λ y. cond (eqb x y) false true) xs) (distinct xs) h in
    let z = get_or xs k 0 in
    let apart : eqb x z ≡ false = apart_at (eqb x z) (all_in (λ y. cond (eqb x y) false true) xs p.0 z (at_in xs k 0 (omega arith))) in
    ap (λ b. b || mem (take k xs) z) apart ∙ fresh xs k p.1 (omega arith)

any_at : (b : Bool) (n : ℕ) (m : Bool) → one b + n ≤ 1 → (n ≤ 1 → n ≡ one m) → one b + n ≡ one (b || m)
any_at true n m h ih = omega arith
any_at false n m h ih = omega (arith, ih (omega arith))

-- if at most one number passes, its count says whether one passes
pub one_any : (f : ℕ → Bool) (xs : List ℕ) → tally f xs ≤ 1 → tally f xs ≡ one (list_any f xs)
one_any f [] h = refl
one_any f (y ∷ ys) h = any_at (f y) (tally f ys) (list_any f ys) h (λ l. one_any f ys l)

-- a count that is raised once more
min_next : (n : ℕ) → min (min n 255 + 1) 255 ≡ min (n + 1) 255
min_next n = elim (cases_lt n 255) [
  | inl l ↦ ap (λ z. min (z + 1) 255) (min-eq_left (let m : n ≤ 255 = omega arith in m))
  | inr g ↦ ap (λ z. min (z + 1) 255) (min-eq_right g) ∙ sym (min-eq_right (let m : 255 ≤ n + 1 = omega arith in m))
]

or_none : (a : Bool) → a ≡ (a || false)
or_none true = refl
or_none false = refl

-- the counts after one more index
pub added_step : (xs : List ℕ) (k : ℕ) (old counts new : List ℕ) → distinct xs ≡ true → k < length xs → get_or xs k 0 < length counts → ((t n : ℕ) → IsCount old t n → IsCount counts t (n + one (mem (take k xs) t))) →
    new ≡ set counts (get_or xs k 0) (min (get_or counts (get_or xs k 0) 0 + 1) 255) → (t n : ℕ) → IsCount old t n → IsCount new t (n + one (mem (take (k + 1) xs) t))
added_step xs k old counts new d l low h is t n o =
    let p = get_or xs k 0 in
    let v = min (get_or counts p 0 + 1) 255 in
    let more : mem (take (k + 1) xs) t ≡ (mem (take k xs) t || (eqb p t || false)) = ap (λ z. mem z t) (take_more xs k 0 l) ∙ any_append (λ y. eqb y t) (take k xs) (p ∷ []) in
    elim (cases_eq t p) [
      | inl e ↦
          let lacks : mem (take k xs) t ≡ false = ap (λ z. mem (take k xs) z) e ∙ fresh xs k d l in
          let has : mem (take (k + 1) xs) t ≡ true = more ∙ or_right (mem (take k xs) t) (eqb p t || false) (ap (λ z. z || false) (eq-eqb p t (sym e))) in
          let same : n + one (mem (take k xs) t) ≡ n = omega (arith, ap one lacks) in
          let next : n + 1 ≡ n + one (mem (take (k + 1) xs) t) = omega (arith, ap one has) in
          let was : get_or counts p 0 ≡ min n 255 = ap (λ z. get_or counts z 0) (sym e) ∙ h t n o ∙ ap (λ z. min z 255) same in
          ap (λ z. get_or z t 0) is ∙ ap (λ z. get_or (set counts p v) z 0) e ∙ get_or-set_same counts p v 0 low ∙ ap (λ z. min (z + 1) 255) was ∙ min_next n ∙ ap (λ z. min z 255) next
      | inr m ↦
          ap (λ z. get_or z t 0) is ∙ get_or-set_other counts p t v 0 m ∙ h t n o
          ∙ ap (λ b. min (n + one b) 255) (or_none (mem (take k xs) t) ∙ ap (λ z. mem (take k xs) t || z) (sym (ap (λ z. z || false) (ne_eqb p t (λ e. m (sym e))))) ∙ sym more)
    ]

pub added_first : (xs old : List ℕ) (t n : ℕ) → IsCount old t n → IsCount old t (n + one (mem (take 0 xs) t))
added_first xs old t n o = o ∙ ap (λ z. min z 255) (let e : n ≡ n + one (mem (take 0 xs) t) = omega arith in e)

pub added_all : (xs : List ℕ) (k : ℕ) (old new : List ℕ) → length xs ≤ k → ((t n : ℕ) → IsCount old t n → IsCount new t (n + one (mem (take k xs) t))) → (t n : ℕ) → IsCount old t n → IsCount new t (n + one (mem xs t))
added_all xs k old new l h t n o = h t n o ∙ ap (λ z. min (n + one (mem z t)) 255) (take_all k xs l)

-- the index of a number raises the count of each tiling that has the number
pub adds_number : (list : List (List ℕ)) (number : ℕ) (indices old new : List ℕ) → ((t : ℕ) → mem indices t ≡ mem (row list t) number) → ((t : ℕ) → tally (λ p. eqb p number) (row list t) ≤ 1) →
    ((t n : ℕ) → IsCount old t n → IsCount new t (n + one (mem indices t))) → AddsCounts (λ p. eqb p number) list old new
adds_number list number indices old new exact once h t n o =
    h t n o ∙ ap (λ b. min (n + one b) 255) (exact t) ∙ ap (λ z. min (n + z) 255) (sym (one_any (λ p. eqb p number) (row list t) (once t)))

and_true : (a : Bool) → a ≡ (a && true)
and_true true = refl
and_true false = refl

and_false : (a : Bool) → (a && false) ≡ false
and_false true = refl
and_false false = refl

-- a number whose placement has the item is counted, and no other number
pub adds_covering : (w : View) (i : Item) (number : ℕ) (list : List (List ℕ)) (old new : List ℕ) → has_item w number i ≡ true → AddsCounts (λ p. eqb p number) list old new → AddsCounts (λ p. eqb p number && has_item w p i) list old new
adds_covering w i number list old new has h t n o = h t n o ∙ ap (λ z. min (n + z) 255) (tally_same_in (λ p. eqb p number) (λ p. eqb p number && has_item w p i) (row list t) (λ p j. elim (cases_eq p number) [
  | inl e ↦ and_true (eqb p number) ∙ ap (λ z. eqb p number && z) (sym (ap (λ z. has_item w z i) e ∙ has))
  | inr m ↦ ne_eqb p number m ∙ ap (λ z. z && has_item w p i) (sym (ne_eqb p number m))
]))

pub adds_none : (w : View) (i : Item) (number : ℕ) (list : List (List ℕ)) (old : List ℕ) → has_item w number i ≡ false → AddsCounts (λ p. eqb p number && has_item w p i) list old old
adds_none w i number list old lacks t n o =
    let none = tally_none (λ p. eqb p number && has_item w p i) (row list t) (λ p j. elim (cases_eq p number) [
      | inl e ↦ ap (λ z. eqb p number && z) (ap (λ z. has_item w z i) e ∙ lacks) ∙ and_false (eqb p number)
      | inr m ↦ ap (λ z. z && has_item w p i) (ne_eqb p number m)
    ]) in
    o ∙ ap (λ z. min z 255) (let e : n ≡ n + tally (λ p. eqb p number && has_item w p i) (row list t) = omega (arith, none) in e)

three : (a b c x : Bool) → one a ≡ one b + one c → one (a && x) ≡ one (b && x) + one (c && x)
three true true true x h = absurd (omega (arith, h))
three true true false x h = omega arith
three true false true x h = omega arith
three true false false x h = absurd (omega (arith, h))
three false true c x h = absurd (omega (arith, h))
three false false true x h = absurd (omega (arith, h))
three false false false x h = refl

one_next : (y k : ℕ) → one (ltb y (k + 1)) ≡ one (ltb y k) + one (eqb y k)
one_next y k = elim (cases_eq y k) [
  | inl e ↦ omega (arith, ap one (lt-ltb y (k + 1) (omega (arith, e))), ap one (le-ltb y k (omega (arith, e))), ap one (eq-eqb y k e))
  | inr m ↦ elim (cases_lt y k) [
    | inl l ↦ omega (arith, ap one (lt-ltb y (k + 1) (omega arith)), ap one (lt-ltb y k l), ap one (ne_eqb y k m))
    | inr g ↦ elim (cases_lt k y) [
      | inl d ↦ omega (arith, ap one (le-ltb y (k + 1) (omega arith)), ap one (le-ltb y k g), ap one (ne_eqb y k m))
      | inr d ↦ absurd (m (omega arith))
    ]
  ]
]

tally_next : (f : ℕ → Bool) (k : ℕ) (xs : List ℕ) → tally (λ p. ltb p k && f p) xs + tally (λ p. eqb p k && f p) xs ≡ tally (λ p. ltb p (k + 1) && f p) xs
tally_next f k [] = refl
tally_next f k (y ∷ ys) = omega (arith, tally_next f k ys, three (ltb y (k + 1)) (ltb y k) (eqb y k) (f y) (one_next y k))

-- the counts of the placements below a number, for none of them, for one more, for all
zeros : (n : ℕ) (counts : List ℕ) → counts ≡ replicate n 0 → (t : ℕ) → IsCount counts t 0
zeros n counts is t = ap (λ z. get_or z t 0) is ∙ elim (cases_lt t n) [
  | inl l ↦ get_or-replicate n t 0 0 l
  | inr g ↦ get_or_past (replicate n 0) t 0 (omega (arith, length-replicate {A = ℕ} n 0))
]

pub counts_first : (w : View) (i : Item) (list : List (List ℕ)) (n : ℕ) (counts : List ℕ) → counts ≡ replicate n 0 → AreCounts (λ p. nat_lt p 0 && has_item w p i) list counts
counts_first w i list n counts is t = zeros n counts is t ∙ ap (λ z. min z 255) (sym (tally_none (λ p. nat_lt p 0 && has_item w p i) (row list t) (λ p j. ap (λ b. b && has_item w p i) (le-ltb p 0 (omega arith)))))

pub counts_more : (w : View) (i : Item) (list : List (List ℕ)) (k : ℕ) (counts new : List ℕ) → AreCounts (λ p. nat_lt p k && has_item w p i) list counts → AddsCounts (λ p. eqb p k && has_item w p i) list counts new → AreCounts (λ p. nat_lt p (k + 1) && has_item w p i) list new
counts_more w i list k counts new h adds t = adds t (tally (λ p. nat_lt p k && has_item w p i) (row list t)) (h t) ∙ ap (λ z. min z 255) (tally_next (λ p. has_item w p i) k (row list t))

pub counts_all : (w : View) (i : Item) (list : List (List ℕ)) (n k : ℕ) (counts : List ℕ) → n ≤ k → HasFlags list n → AreCounts (λ p. nat_lt p k && has_item w p i) list counts → AreCounts (λ p. has_item w p i) list counts
counts_all w i list n k counts l flags h t = h t ∙ ap (λ z. min z 255) (elim (cases_lt t (length list)) [
  | inl low ↦ tally_same_in (λ p. nat_lt p k && has_item w p i) (λ p. has_item w p i) (row list t) (λ p j.
      let below = ltb-true p n (all_in (λ q. nat_lt q n) (row list t) (all_in (λ T. list_all (λ q. nat_lt q n) T) list flags.low (row list t) (at_in list t [] low)) p j) in
      ap (λ b. b && has_item w p i) (lt-ltb p k (omega arith)))
  | inr high ↦ subst (λ T. tally (λ p. nat_lt p k && has_item w p i) T ≡ count w T i) (sym (get_or_past list t [] high)) refl
])

-- the counts of one number alone
pub counts_one : (f : ℕ → Bool) (list : List (List ℕ)) (n : ℕ) (cleared new : List ℕ) → cleared ≡ replicate n 0 → AddsCounts f list cleared new → AreCounts f list new
counts_one f list n cleared new is adds t = adds t 0 (zeros n cleared is t) ∙ ap (λ z. min z 255) (let e : 0 + tally f (row list t) ≡ tally f (row list t) = omega arith in e)

tests_at : (b : Bool) (n : ℕ) (m : Bool) → leb 1 n ≡ m → leb 1 (one b + n) ≡ (b || m)
tests_at true n m ih = le-leb 1 (one true + n) (omega arith)
tests_at false n m ih = ap (λ z. leb 1 z) (let e : one false + n ≡ n = omega arith in e) ∙ ih

any_tally : (f : ℕ → Bool) (xs : List ℕ) → leb 1 (tally f xs) ≡ list_any f xs
any_tally f [] = refl
any_tally f (y ∷ ys) = tests_at (f y) (tally f ys) (list_any f ys) (any_tally f ys)

-- a count that stops at 255 tells what the exact count would tell of a bound
low_count : (l n : ℕ) → l ≤ 255 → leb l (min n 255) ≡ leb l n
low_count l n h = elim (cases_lt n 255) [
  | inl m ↦ ap (λ z. leb l z) (min-eq_left (let k : n ≤ 255 = omega arith in k))
  | inr g ↦ ap (λ z. leb l z) (min-eq_right g) ∙ le-leb l 255 h ∙ sym (le-leb l n (omega arith))
]

high_count : (m n : ℕ) → m < 255 → leb (min n 255) m ≡ leb n m
high_count m n h = elim (cases_lt n 255) [
  | inl k ↦ ap (λ z. leb z m) (min-eq_left (let j : n ≤ 255 = omega arith in j))
  | inr g ↦ ap (λ z. leb z m) (min-eq_right g) ∙ lt-leb 255 m h ∙ sym (lt-leb n m (omega arith))
]

small_bounds : (bs : List Bound) (i : Item) → list_all (λ b. nat_le b.least b.most && nat_le b.most 16) bs ≡ true → (bound_in bs i (λ b. b.least) ≤ 16) × (bound_in bs i (λ b. b.most) ≤ 16)
small_bounds [] i h = (omega arith, omega arith)
small_bounds (b ∷ bs) i h =
    let p = and_parts (nat_le b.least b.most && nat_le b.most 16) (list_all (λ c. nat_le c.least c.most && nat_le c.most 16) bs) h in
    let q = and_parts (nat_le b.least b.most) (nat_le b.most 16) p.0 in
    let most = leb-true b.most 16 q.1 in
    let least = leb-true b.least b.most q.0 in
    let rest = small_bounds bs i p.1 in
    elim (same_item b.item i) as (λ z. (cond z b.least (bound_in bs i (λ c. c.least)) ≤ 16) × (cond z b.most (bound_in bs i (λ c. c.most)) ≤ 16)) [
      | true ↦ (omega (arith, most, least), most)
      | false ↦ rest
    ]

-- the counts of an item tell in which tilings it fits
pub fits_between : (w : View) (i : Item) (list : List (List ℕ)) (counts : List ℕ) (l m : ℕ) → WellNamed w → l ≡ least w i → m ≡ most w i → AreCounts (λ p. has_item w p i) list counts → ArePassing (fits w i) list counts l m
fits_between w i list counts l m well el em h t low =
    let s = small_bounds w.bounds i well.small in
    let n = count w (row list t) i in
    sym (
    ap (λ z. leb l z && leb z m) (h t)
    ∙ ap (λ b. b && leb (min n 255) m) (low_count l n (omega (arith, el, s.0)) ∙ ap (λ z. leb z n) el)
    ∙ ap (λ b. leb (least w i) n && b) (high_count m n (omega (arith, em, s.1)) ∙ ap (λ z. leb n z) em))

-- the counts of a number tell which tilings have it
pub has_between : (list : List (List ℕ)) (number : ℕ) (counts : List ℕ) → AreCounts (λ p. eqb p number) list counts → ArePassing (λ T. mem T number) list counts 1 255
has_between list number counts h t low =
    let f = λ (p : ℕ). eqb p number in
    let n = tally f (row list t) in
    sym (
    ap (λ z. leb 1 z && leb z 255) (h t)
    ∙ ap (λ b. leb 1 (min n 255) && b) (le-leb (min n 255) 255 (min-le_right n 255))
    ∙ sym (and_true (leb 1 (min n 255)))
    ∙ low_count 1 n (omega arith)
    ∙ any_tally f (row list t))

-- from some index on, the tilings whose counts are out of bounds are removed
pub record IsSweeping (a b : List (List ℕ)) (counts : List ℕ) (least most index : ℕ) : Type 0 where
  pub start : index ≤ length a
  pub low : index ≤ length b
  pub swept : (p : List ℕ → Bool) → ArePassing p a counts least most → IsSwept p a b index

pub sweeping_first : (a : List (List ℕ)) (counts : List ℕ) (l m n : ℕ) → n ≡ length a → IsSweeping a a counts l m n
sweeping_first a counts l m n e = record { start = omega arith; low = omega arith; swept = λ p h. swept_first p a n e }

pub sweeping_more : (a b c : List (List ℕ)) (counts : List ℕ) (l m k index : ℕ) (stays : Bool) → index ≡ k + 1 → IsSweeping a b counts l m index → stays ≡ between counts l m k → take k c ≡ take k b → k ≤ length c →
    ((f : List ℕ → Bool) → tally f c + one (f (row b k) && not stays) ≡ tally f b) → IsSweeping a c counts l m k
sweeping_more a b c counts l m k index stays e s is front long gone = record {
  start = omega (arith, s.start);
  low = long;
  swept = λ p h.
      let w = s.swept p h in
      let same : row b k ≡ row a k = sym (get_or-take index b k [] (omega arith)) ∙ ap (λ z. row z k) w.front ∙ get_or-take index a k [] (omega arith) in
      let says : stays ≡ p (row b k) = is ∙ sym (h k (omega (arith, s.start))) ∙ ap p (sym same) in
      swept_more p a b c k index e w front long (λ f. ap (λ z. tally f c + one (f (row b k) && not z)) (sym says) ∙ gone f);
}

pub sweeping_all : (a b : List (List ℕ)) (counts : List ℕ) (l m index : ℕ) → index ≡ 0 → IsSweeping a b counts l m index → (p : List ℕ → Bool) → ArePassing p a counts l m → Keeps p a b
sweeping_all a b counts l m index e s p h = swept_all p a b index e (s.swept p h)
