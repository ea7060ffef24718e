-- Numbers that a loop reads from digits.
use Rattle.std.proofs.Common.{◌≡◌, ℕ, ◌+◌, ◌*◌, ◌^◌, ◌-◌, ◌<◌, ◌≤◌, ◌&&◌, Bool, true, false, List, [], ◌∷◌, length, min, take, drop, get_or, Some, None, refl, ap, sym, ◌∙◌, arith, lit<, drop-cons, add-one}
use Rattle.std.specs.Prelude.{option_map, nat_le}
use Rattle.std.specs.List.{list_all}
use Rattle.std.specs.Char.{digit_value, is_digit}
use Rattle.std.specs.Str.Parse.{digits_value, AllDigits}
use Rattle.std.proofs.Math.Nat.{pow-le-pow_right, min-eq_left}
use Rattle.std.proofs.lemmas.Bool.{le-leb, lt-leb, ltb-true, and_parts}
use Rattle.std.proofs.lemmas.Int.Digits.{digits_value_more, digits_value-lt}
use Rattle.poly_text.specs.Json.{when}
use Rattle.poly_text.specs.Words.{is_number, number_of, coordinate_of}

least_of : (v d M : ℕ) → min (min (min v M * 10) M + d) M ≡ min (v * 10 + d) M
least_of v d M = omega arith

-- the number after one more digit; a number over `M` is read as `M`
pub number_step : (word : List ℕ) (i b number digit scaled new M : ℕ) → i < length word → b ≡ get_or word i 0 → number ≡ min (digits_value 10 (take i word)) M
    → digit ≡ digit_value b → scaled ≡ min (number * 10) M → new ≡ min (scaled + digit) M → new ≡ min (digits_value 10 (take (i + 1) word)) M
number_step word i b number digit scaled new M lt is so_far value times plus =
    let more : digits_value 10 (take (i + 1) word) ≡ digits_value 10 (take i word) * 10 + digit_value (get_or word i 0) = digits_value_more 10 word i lt in
    rw (plus, times, so_far, value, is, more) (least_of (digits_value 10 (take i word)) (digit_value (get_or word i 0)) M)

-- if the element at `i` passes, all from `i` on pass exactly if all after it do
pub all_step : (p : ℕ → Bool) (word : List ℕ) (i b : ℕ) (all : Bool) → i < length word → b ≡ get_or word i 0 → p b ≡ true → list_all p (drop i word) ≡ all → list_all p (drop (i + 1) word) ≡ all
all_step p word i b all lt is passes so_far =
    let here : drop i word ≡ get_or word i 0 ∷ drop (i + 1) word = rw (drop-cons word i 0 lt, add-one i) refl in
    let first : p (get_or word i 0) ≡ true = rw (← is) passes in
    let one : list_all p (drop i word) ≡ list_all p (drop (i + 1) word) = rw (here, first) refl in
    sym one ∙ so_far

all_digits : (word : List ℕ) → list_all (λ b. is_digit b 10) word ≡ true → AllDigits 10 word
all_digits [] e = tt
all_digits (b ∷ bs) e =
    let parts = and_parts (is_digit b 10) (list_all (λ x. is_digit x 10) bs) e in
    (ltb-true (digit_value b) 10 parts.0, all_digits bs parts.1)

short_number : (word : List ℕ) → list_all (λ b. is_digit b 10) word ≡ true → length word ≤ 9 → digits_value 10 word ≤ 2 ^ 64 - 1
short_number word digits short =
    let below = digits_value-lt 10 word (all_digits word digits) in
    let most : 10 ^ length word ≤ 10 ^ 9 = pow-le-pow_right (lit< tt) short in
    omega (arith, below, most)

-- a number of at most 9 digits fits into 64 bits, so `number_of` gives the same as `coordinate_of`, even if each number over
-- the greatest of 64 bits is read as that greatest one
pub short_is : (word : List ℕ) → length word ≤ 9 → option_map (λ n. min n (2 ^ 64 - 1)) (number_of word) ≡ coordinate_of word
short_is word short = go (is_number word) refl
  where
    go : (b : Bool) → is_number word ≡ b → option_map (λ n. min n (2 ^ 64 - 1)) (when b (digits_value 10 word)) ≡ when (b && nat_le (length word) 9) (digits_value 10 word)
    go false e = refl
    go true e = rw (le-leb (length word) 9 short) (ap Some (min-eq_left (short_number word (and_parts _ _ e).1 short)))

pub long_is : (word : List ℕ) → 9 < length word → coordinate_of word ≡ None
long_is word long = go (is_number word)
  where
    go : (b : Bool) → when (b && nat_le (length word) 9) (digits_value 10 word) ≡ None
    go false = refl
    go true = rw (lt-leb (length word) 9 long) refl
