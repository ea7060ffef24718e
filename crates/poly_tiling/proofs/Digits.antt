-- Two lists of numbers compare as the numbers that their leading digits make, if these numbers differ.
use Rattle.std.proofs.Common.{List, [], ap, arith, get_or, inl, inr, length, map, refl, subst, suc, sym, zero, ℕ, ◌*◌, ◌+◌, ◌<◌, ◌^◌, ◌∙◌, ◌∷◌, ◌≡◌, ◌≤◌}
use Rattle.std.proofs.lemmas.Bool.{cases_lt}
use Rattle.std.proofs.lemmas.Cmp.{nat_list_cmp_total}
use Rattle.std.proofs.lemmas.List.Elements.{All-tail}
use Rattle.std.proofs.Math.Nat.{mul-le-mul_right, one-le-pow, pow-le-pow_right, pow-suc, suc-mul}
use Rattle.std.specs.Cmp.Lexicographic.{slice_cmp}
use Rattle.std.specs.List.{All}
use Rattle.std.specs.List.Sorted.{IsSortedBy}
use Rattle.std.specs.Ordering.{is_lt, nat_cmp, ordering_reverse, ordering_then}
use Rattle.std.specs.declared.cmp.Ordering.TheVariants.{Less}
use Rattle.poly_tiling.specs.TilingOrder.{ranks_from}
use Rattle.poly_tiling.specs.Leading.{AreDigits, digit_at, leading}
use Rattle.poly_tiling.proofs.Contained.{at_in}
use Rattle.poly_tiling.proofs.Ranks.{nat_less, nat_more, nat_tied, ranks_high}

digit_low : (base : ℕ) (xs : List ℕ) (i : ℕ) → 0 < base → AreDigits base xs → digit_at xs i < base
digit_low base [] i p are = p
digit_low base (x ∷ xs) zero p are = are 0 x (omega arith)
digit_low base (x ∷ xs) (suc i) p are = digit_low base xs i p (All-tail (λ x. x + 1 < base) x xs are)

-- a lower number with any digit appended is below a higher number with a 0 appended
step_lower : (base a b d : ℕ) → a < b → d < base → a * base + d < b * base
step_lower base a b d l low =
    let next : suc a ≤ b = omega (arith, l) in
    let more : suc a * base ≤ b * base = mul-le-mul_right base next in
    let is = suc-mul a base in
    omega (arith, more, is, low)

leading_low : (base : ℕ) (xs : List ℕ) (n : ℕ) → 0 < base → AreDigits base xs → leading base xs n < base ^ n
leading_low base xs zero p are = let low : 1 ≤ base ^ 0 = one-le-pow 0 base p in omega (arith, low)
leading_low base xs (suc n) p are = subst (λ z. leading base xs n * base + digit_at xs n < z) (sym (pow-suc base n))
    (step_lower base (leading base xs n) (base ^ n) (digit_at xs n) (leading_low base xs n p are) (digit_low base xs n p are))

pub power_more : (base n : ℕ) → base ^ (n + 1) ≡ base ^ n * base
power_more base n = let e : n + 1 ≡ suc n = omega arith in ap (λ m. base ^ m) e ∙ pow-suc base n

pub leading_more : (base : ℕ) (xs : List ℕ) (n : ℕ) → leading base xs (n + 1) ≡ leading base xs n * base + digit_at xs n
leading_more base xs n = let e : n + 1 ≡ suc n = omega arith in ap (λ m. leading base xs m) e

-- if n is below count, the number that the first n + 1 digits make is below base ^ count
pub digit_fits : (base : ℕ) (xs : List ℕ) (n count : ℕ) → 0 < base → AreDigits base xs → n < count → leading base xs n * base + digit_at xs n < base ^ count
digit_fits base xs n count p are l =
    let next : suc n ≤ count = omega (arith, l) in
    let here : leading base xs n * base + digit_at xs n < base ^ suc n = leading_low base xs (suc n) p are in
    let all : base ^ suc n ≤ base ^ count = pow-le-pow_right p next in
    omega (arith, here, all)

same_step : (base a b d e : ℕ) → d < base → e < base → a * base + d ≡ b * base + e → (a ≡ b) × (d ≡ e)
same_step base a b d e ld le is = elim (cases_lt a b) [
  | inl l ↦ let more = step_lower base a b d l ld in absurd (omega (arith, more, is))
  | inr m ↦ elim (cases_lt b a) [
    | inl l ↦ let more = step_lower base b a e l le in absurd (omega (arith, more, is))
    | inr k ↦ let same : a ≡ b = omega (arith, m, k) in (same, (let moved = ap (λ z. z * base) same in omega (arith, is, moved)))
  ]
]

same_digits : (base : ℕ) (xs ys : List ℕ) (n : ℕ) → 0 < base → AreDigits base xs → AreDigits base ys → leading base xs n ≡ leading base ys n → (i : ℕ) → i < n → digit_at xs i ≡ digit_at ys i
same_digits base xs ys zero p xd yd is i l = absurd (omega (arith, l))
same_digits base xs ys (suc n) p xd yd is i l =
    let s = same_step base (leading base xs n) (leading base ys n) (digit_at xs n) (digit_at ys n) (digit_low base xs n p xd) (digit_low base ys n p yd) is in
    elim (cases_lt i n) [
      | inl k ↦ same_digits base xs ys n p xd yd s.0 i k
      | inr k ↦ let e : n ≡ i = omega (arith, l, k) in subst (λ j. digit_at xs j ≡ digit_at ys j) e s.1
    ]

-- the first position at which the digits differ; the first list has the lower digit there
record Differ (xs ys : List ℕ) : Type 0 where
  position : ℕ
  lower : digit_at xs position < digit_at ys position
  before : (i : ℕ) → i < position → digit_at xs i ≡ digit_at ys i

differ : (base : ℕ) (xs ys : List ℕ) (n : ℕ) → 0 < base → AreDigits base xs → AreDigits base ys → leading base xs n < leading base ys n → Differ xs ys
differ base xs ys zero p xd yd l = let none : 0 < 0 = l in absurd (omega (arith, none))
differ base xs ys (suc n) p xd yd l =
    let step : leading base xs n * base + digit_at xs n < leading base ys n * base + digit_at ys n = l in
    elim (cases_lt (leading base xs n) (leading base ys n)) [
      | inl k ↦ differ base xs ys n p xd yd k
      | inr k ↦ elim (cases_lt (leading base ys n) (leading base xs n)) [
        | inl m ↦ let more = step_lower base (leading base ys n) (leading base xs n) (digit_at ys n) m (digit_low base ys n p yd) in absurd (omega (arith, more, step))
        | inr m ↦
            let same : leading base xs n ≡ leading base ys n = omega (arith, k, m) in
            let moved = ap (λ z. z * base) same in
            record { position = n; lower = omega (arith, moved, step); before = same_digits base xs ys n p xd yd same }
      ]
    ]

differ_less : (i : ℕ) (xs ys : List ℕ) → digit_at xs i < digit_at ys i → ((j : ℕ) → j < i → digit_at xs j ≡ digit_at ys j) → slice_cmp nat_cmp xs ys ≡ Less
differ_less i [] [] l before = let none : 0 < 0 = l in absurd (omega (arith, none))
differ_less i [] (y ∷ ys) l before = refl
differ_less zero (x ∷ xs) [] l before = let none : x + 1 < 0 = l in absurd (omega (arith, none))
differ_less (suc i) (x ∷ xs) [] l before = let none : x + 1 ≡ 0 = before 0 (omega arith) in absurd (omega (arith, none))
differ_less zero (x ∷ xs) (y ∷ ys) l before = ap (λ o. ordering_then o (slice_cmp nat_cmp xs ys)) (nat_less x y (let low : x + 1 < y + 1 = l in omega (arith, low)))
differ_less (suc i) (x ∷ xs) (y ∷ ys) l before =
    let e : x ≡ y = (let first : x + 1 ≡ y + 1 = before 0 (omega arith) in omega (arith, first)) in
    ap (λ o. ordering_then o (slice_cmp nat_cmp xs ys)) (ap (λ z. nat_cmp x z) (sym e) ∙ nat_tied x)
    ∙ differ_less i xs ys l (λ j k. before (suc j) (omega (arith, k)))

leading_less : (base : ℕ) (xs ys : List ℕ) (n : ℕ) → 0 < base → AreDigits base xs → AreDigits base ys → leading base xs n < leading base ys n → slice_cmp nat_cmp xs ys ≡ Less
leading_less base xs ys n p xd yd l = let d = differ base xs ys n p xd yd l in differ_less d.position xs ys d.lower d.before

-- comparing the leading digits of two lists first, and the lists themselves only if these digits are the same, has the same
-- result as comparing the lists
pub leading_agrees : (base : ℕ) (xs ys : List ℕ) (n : ℕ) → 0 < base → AreDigits base xs → AreDigits base ys → ordering_then (nat_cmp (leading base xs n) (leading base ys n)) (slice_cmp nat_cmp xs ys) ≡ slice_cmp nat_cmp xs ys
leading_agrees base xs ys n p xd yd = elim (cases_lt (leading base xs n) (leading base ys n)) [
  | inl k ↦ ap (λ o. ordering_then o (slice_cmp nat_cmp xs ys)) (nat_less (leading base xs n) (leading base ys n) k) ∙ sym (leading_less base xs ys n p xd yd k)
  | inr k ↦ elim (cases_lt (leading base ys n) (leading base xs n)) [
    | inl m ↦ ap (λ o. ordering_then o (slice_cmp nat_cmp xs ys)) (nat_more (leading base ys n) (leading base xs n) m)
        ∙ sym (nat_list_cmp_total.antisymm xs ys ∙ ap ordering_reverse (leading_less base ys xs n p yd xd m))
    | inr m ↦
        let same : leading base xs n ≡ leading base ys n = omega (arith, k, m) in
        ap (λ o. ordering_then o (slice_cmp nat_cmp xs ys)) (ap (λ z. nat_cmp (leading base xs n) z) (sym same) ∙ nat_tied (leading base xs n))
  ]
]

-- the ranks of a tiling are digits of the base that is one more than the number of live numbers
pub ranks_digits : (base : ℕ) (live T : List ℕ) → base ≡ length live + 1 → AreDigits base (ranks_from 0 live T)
ranks_digits base live T is k d l = let high = ranks_high 0 live T (get_or (ranks_from 0 live T) k d) (at_in (ranks_from 0 live T) k d l) in omega (arith, high, is)

-- each row of ranks has only digits of this base; a row past the last one is empty
pub row_digits : (base : ℕ) (live : List ℕ) (tilings : List (List ℕ)) → base ≡ length live + 1 → (i : ℕ) → AreDigits base (get_or (map (ranks_from 0 live) tilings) i [])
row_digits base live [] is i = λ k d l. let none : k < 0 = l in absurd (omega (arith, none))
row_digits base live (T ∷ tilings) is zero = ranks_digits base live T is
row_digits base live (T ∷ tilings) is (suc i) = row_digits base live tilings is i

-- keys that are sorted by leading digits first are in the order of their rows
pub keys_sorted : {R : Type 0} (base n : ℕ) (first : R → ℕ) (row : R → List ℕ) (rs : List R) → 0 < base → ((r : R) → AreDigits base (row r)) → All (λ r. first r ≡ leading base (row r) n) rs →
    IsSortedBy (λ x y. is_lt (ordering_then (nat_cmp (first x) (first y)) (slice_cmp nat_cmp (row x) (row y)))) rs → IsSortedBy (λ x y. is_lt (slice_cmp nat_cmp (row x) (row y))) rs
keys_sorted base n first row rs p digits leads up k d l m =
    let x = get_or rs (k + 1) d in
    let y = get_or rs k d in
    ap is_lt (sym (leading_agrees base (row x) (row y) n p (digits x) (digits y)))
    ∙ ap (λ f. is_lt (ordering_then (nat_cmp f (leading base (row y) n)) (slice_cmp nat_cmp (row x) (row y)))) (sym (leads (k + 1) d m))
    ∙ ap (λ f. is_lt (ordering_then (nat_cmp (first x) f) (slice_cmp nat_cmp (row x) (row y)))) (sym (leads k d (omega (arith, m))))
    ∙ up k d l m
