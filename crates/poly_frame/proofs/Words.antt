-- Rows of bits: putting a number in, taking out one number or those of another row, and searching two rows.
use Rattle.std.proofs.Common.{◌≡◌, ℕ, zero, suc, ◌+◌, ◌-◌, ◌*◌, ◌/◌, ◌%◌, ◌^◌, ◌<◌, ◌≤◌, min, Bool, true, false, not, ◌&&◌, ◌||◌, eqb, List, [], ◌++◌, ◌⊎◌, inl, inr, refl, sym, ap, subst, ◌∙◌, ◌∷◌, arith, length, length-append, take, drop, replicate, get_or, get_or-set_other, get_or-set_same, w64, bit_and, bit_or, true≢false}
use Rattle.std.proofs.Math.ListN.{set}
use Rattle.std.proofs.Math.Seq.{get_or-append_seam}
use Rattle.std.proofs.lemmas.Bool.{cases_eq, cases_lt, eq-eqb, ne_eqb, or_right}
use Rattle.std.proofs.lemmas.Nat.Bits.{bit_at_and, bit_at_not, bit_at-lt, bit_at_set_same, bit_at_set_other, bit_at_clear_same, bit_at_clear_other, bit_at-trailing_zeros, bit_at-zero, bit_at_above, shr_and_one}
use Rattle.std.proofs.lemmas.Nat.{and_le_l, shr-shr}
use Rattle.std.proofs.Math.Nat.{div-le_self}
use Rattle.std.proofs.lemmas.List.{get_or-append-add, get_or-drop, get_or-take, get_or_append_left, length-drop, length-set, length-take-le}
use Rattle.std.specs.Int.{bit_at, bit_not, trailing_zeros}
use Rattle.poly_frame.specs.Bits.{FirstIn, IsLess, IsLessSix, NoneIn, has_bit, in_both}

less_at : (x y : ℕ) → x < 2 → y < 2 → eqb (min x (1 - y)) 1 ≡ (eqb x 1 && not (eqb y 1))
less_at zero zero h k = refl
less_at zero (suc zero) h k = refl
less_at zero (suc (suc y)) h k = absurd (omega arith)
less_at (suc zero) zero h k = refl
less_at (suc zero) (suc zero) h k = refl
less_at (suc zero) (suc (suc y)) h k = absurd (omega arith)
less_at (suc (suc x)) y h k = absurd (omega arith)

pub bit_less : (w r t : ℕ) → r < 2 ^ 64 → t < 64 → eqb (bit_at (bit_and w (bit_not w64 r)) t) 1 ≡ (eqb (bit_at w t) 1 && not (eqb (bit_at r t) 1))
bit_less w r t h l = ap (λ x. eqb x 1) (bit_at_and w (bit_not w64 r) t ∙ ap (λ x. min (bit_at w t) x) (bit_at_not w64 r t h l)) ∙ less_at (bit_at w t) (bit_at r t) (bit_at-lt w t) (bit_at-lt r t)

or_no : (b c : Bool) → c ≡ false → b ≡ (b || c)
or_no true c e = refl
or_no false c e = sym e

and_yes : (b c : Bool) → c ≡ false → b ≡ (b && not c)
and_yes true c e = ap not (sym e)
and_yes false c e = refl

and_no : (b c : Bool) → c ≡ true → false ≡ (b && not c)
and_no true c e = ap not (sym e)
and_no false c e = refl

pub other_at : (ws : List ℕ) (k x n : ℕ) → (n ≡ k → ⊥) → get_or (set ws k x) n 0 ≡ get_or ws n 0
other_at ws k x n ne = rw get_or-set_other refl

same_at : (ws : List ℕ) (k x n : ℕ) → k < length ws → n ≡ k → get_or (set ws k x) n 0 ≡ x
same_at ws k x n h e = ap (λ m. get_or (set ws k x) m 0) e ∙ rw get_or-set_same refl

apart : (i j : ℕ) → (j / 64 ≡ i / 64 → ⊥) → eqb i j ≡ false
apart i j n = ne_eqb i j (λ e. n (ap (λ m. m / 64) (sym e)))

apart_low : (i j : ℕ) → (j % 64 ≡ i % 64 → ⊥) → eqb i j ≡ false
apart_low i j n = ne_eqb i j (λ e. n (ap (λ m. m % 64) (sym e)))

put_one : (ws : List ℕ) (i j : ℕ) → i / 64 < length ws →
    has_bit (set ws (i / 64) (bit_or (get_or ws (i / 64) 0) (1 * 2 ^ (i % 64) % 2 ^ 64))) j ≡ (has_bit ws j || eqb i j)
unfolding has_bit
put_one ws i j h =
    let w = get_or ws (i / 64) 0 in
    let x = bit_or w (1 * 2 ^ (i % 64) % 2 ^ 64) in
    let low : i % 64 < 64 = omega arith in
    elim (cases_eq (j / 64) (i / 64)) [
      | inl e ↦
          let r = ap (λ y. eqb (bit_at y (j % 64)) 1) (same_at ws (i / 64) x (j / 64) h e) in
          elim (cases_eq (j % 64) (i % 64)) [
            | inl f ↦
                let same : i ≡ j = omega arith in
                r ∙ ap (λ t. eqb (bit_at x t) 1) f ∙ eq-eqb _ _ (bit_at_set_same w64 w (i % 64) low) ∙ sym (or_right (eqb (bit_at (get_or ws (j / 64) 0) (j % 64)) 1) (eqb i j) (eq-eqb i j same))
            | inr n ↦
                r ∙ ap (λ y. eqb y 1) (bit_at_set_other w64 w (i % 64) low (j % 64) n) ∙ ap (λ m. eqb (bit_at (get_or ws m 0) (j % 64)) 1) (sym e) ∙ or_no _ _ (apart_low i j n)
          ]
      | inr n ↦ ap (λ y. eqb (bit_at y (j % 64)) 1) (other_at ws (i / 64) x (j / 64) n) ∙ or_no _ _ (apart i j n)
    ]

clear_one : (ws : List ℕ) (i j : ℕ) → i / 64 < length ws →
    has_bit (set ws (i / 64) (bit_and (get_or ws (i / 64) 0) (bit_not w64 (1 * 2 ^ (i % 64) % 2 ^ 64)))) j ≡ (has_bit ws j && not (eqb i j))
unfolding has_bit
clear_one ws i j h =
    let w = get_or ws (i / 64) 0 in
    let x = bit_and w (bit_not w64 (1 * 2 ^ (i % 64) % 2 ^ 64)) in
    let low : i % 64 < 64 = omega arith in
    let lowj : j % 64 < 64 = omega arith in
    elim (cases_eq (j / 64) (i / 64)) [
      | inl e ↦
          let r = ap (λ y. eqb (bit_at y (j % 64)) 1) (same_at ws (i / 64) x (j / 64) h e) in
          elim (cases_eq (j % 64) (i % 64)) [
            | inl f ↦
                let same : i ≡ j = omega arith in
                r ∙ ap (λ t. eqb (bit_at x t) 1) f ∙ ap (λ y. eqb y 1) (bit_at_clear_same w64 w (i % 64) low) ∙ and_no (eqb (bit_at (get_or ws (j / 64) 0) (j % 64)) 1) (eqb i j) (eq-eqb i j same)
            | inr n ↦
                r ∙ ap (λ y. eqb y 1) (bit_at_clear_other w64 w (i % 64) low (j % 64) lowj n) ∙ ap (λ m. eqb (bit_at (get_or ws m 0) (j % 64)) 1) (sym e) ∙ and_yes _ _ (apart_low i j n)
          ]
      | inr n ↦ ap (λ y. eqb (bit_at y (j % 64)) 1) (other_at ws (i / 64) x (j / 64) n) ∙ and_yes _ _ (apart i j n)
    ]

-- a word from which one bit is taken out
pub word_without : (w t u : ℕ) → t < 64 → u < 64 → eqb (bit_at (bit_and w (bit_not w64 (1 * 2 ^ t % 2 ^ 64))) u) 1 ≡ (eqb (bit_at w u) 1 && not (eqb t u))
word_without w t u h l = elim (cases_eq u t) [
  | inl e ↦ ap (λ n. eqb (bit_at (bit_and w (bit_not w64 (1 * 2 ^ t % 2 ^ 64))) n) 1) e ∙ ap (λ y. eqb y 1) (bit_at_clear_same w64 w t h) ∙ and_no (eqb (bit_at w u) 1) (eqb t u) (eq-eqb t u (sym e))
  | inr n ↦ ap (λ y. eqb y 1) (bit_at_clear_other w64 w t h u l n) ∙ and_yes _ _ (ne_eqb t u (λ e. n (sym e)))
]

-- a word with one more bit set has this bit and those that it had
pub with_kept : (w t u : ℕ) → t < 64 → eqb (bit_at (bit_or w (1 * 2 ^ t % 2 ^ 64)) u) 1 ≡ false → eqb (bit_at w u) 1 ≡ false
with_kept w t u h e = elim (cases_eq u t) [
  | inl s ↦ absurd (true≢false (sym (ap (λ n. eqb (bit_at (bit_or w (1 * 2 ^ t % 2 ^ 64)) n) 1) s ∙ eq-eqb _ _ (bit_at_set_same w64 w t h)) ∙ e))
  | inr n ↦ ap (λ y. eqb y 1) (sym (bit_at_set_other w64 w t h u n)) ∙ e
]

pub with_put : (w t : ℕ) → t < 64 → eqb (bit_at (bit_or w (1 * 2 ^ t % 2 ^ 64)) t) 1 ≡ false → ⊥
with_put w t h e = true≢false (sym (eq-eqb _ _ (bit_at_set_same w64 w t h)) ∙ e)

pub without_less : (w t : ℕ) → t < 64 → bit_at w t ≡ 1 → bit_and w (bit_not w64 (1 * 2 ^ t % 2 ^ 64)) < w
without_less w t h one =
    let x = bit_and w (bit_not w64 (1 * 2 ^ t % 2 ^ 64)) in
    elim (cases_lt x w) [
      | inl l ↦ l
      | inr g ↦
          let same : x ≡ w = omega (arith, g, and_le_l w (bit_not w64 (1 * 2 ^ t % 2 ^ 64))) in
          absurd (omega (arith, one, ap (λ y. bit_at y t) same, bit_at_clear_same w64 w t h))
    ]

-- the word and the bit of a number of a row
pub row_word : (at j : ℕ) → (64 * at + j) / 64 ≡ at + j / 64
row_word at j = omega arith

pub row_index : (at j : ℕ) → (64 * at + j) % 64 ≡ j % 64
row_index at j = omega arith

pub put_bit : (ws : List ℕ) (at j x : ℕ) → at + j / 64 < length ws →
    has_bit (set ws (at + j / 64) (bit_or (get_or ws (at + j / 64) 0) (1 * 2 ^ (j % 64) % 2 ^ 64))) x ≡ (has_bit ws x || eqb (64 * at + j) x)
put_bit ws at j x h =
    ap (λ t. has_bit (set ws (at + j / 64) (bit_or (get_or ws (at + j / 64) 0) (1 * 2 ^ t % 2 ^ 64))) x) (sym (row_index at j))
    ∙ ap (λ k. has_bit (set ws k (bit_or (get_or ws k 0) (1 * 2 ^ ((64 * at + j) % 64) % 2 ^ 64))) x) (sym (row_word at j))
    ∙ put_one ws (64 * at + j) x (omega (arith, row_word at j))

pub clear_bit : (ws : List ℕ) (at j x : ℕ) → at + j / 64 < length ws →
    has_bit (set ws (at + j / 64) (bit_and (get_or ws (at + j / 64) 0) (bit_not w64 (1 * 2 ^ (j % 64) % 2 ^ 64)))) x ≡ (has_bit ws x && not (eqb (64 * at + j) x))
clear_bit ws at j x h =
    ap (λ t. has_bit (set ws (at + j / 64) (bit_and (get_or ws (at + j / 64) 0) (bit_not w64 (1 * 2 ^ t % 2 ^ 64)))) x) (sym (row_index at j))
    ∙ ap (λ k. has_bit (set ws k (bit_and (get_or ws k 0) (bit_not w64 (1 * 2 ^ ((64 * at + j) % 64) % 2 ^ 64)))) x) (sym (row_word at j))
    ∙ clear_one ws (64 * at + j) x (omega (arith, row_word at j))

-- whether a row has number j is told by one bit of one word
pub in_word : (ws : List ℕ) (at j : ℕ) → has_bit ws (64 * at + j) ≡ eqb (bit_at (get_or ws (at + j / 64) 0) (j % 64)) 1
unfolding has_bit
in_word ws at j = ap (λ k. eqb (bit_at (get_or ws k 0) ((64 * at + j) % 64)) 1) (row_word at j) ∙ ap (λ t. eqb (bit_at (get_or ws (at + j / 64) 0) t) 1) (row_index at j)

pub has_at : (ws : List ℕ) (at j : ℕ) → eqb (bit_and (get_or ws (at + j / 64) 0 / 2 ^ (j % 64)) 1) 1 ≡ has_bit ws (64 * at + j)
has_at ws at j = ap (λ y. eqb y 1) (shr_and_one (get_or ws (at + j / 64) 0) (j % 64)) ∙ sym (in_word ws at j)

pub same_word : (ws new : List ℕ) (x : ℕ) → get_or new (x / 64) 0 ≡ get_or ws (x / 64) 0 → has_bit new x ≡ has_bit ws x
unfolding has_bit
same_word ws new x e = ap (λ w. eqb (bit_at w (x % 64)) 1) e

-- if the words of two rows for number j are equal, both rows have j or both lack it
pub same_row : (ws new : List ℕ) (at to j : ℕ) → get_or new (to + j / 64) 0 ≡ get_or ws (at + j / 64) 0 → has_bit new (64 * to + j) ≡ has_bit ws (64 * at + j)
same_row ws new at to j e = in_word new to j ∙ ap (λ w. eqb (bit_at w (j % 64)) 1) e ∙ sym (in_word ws at j)

-- a row whose words each lack the bits of another row's word lacks that row's numbers
pub words_less : (ws rs new : List ℕ) (n : ℕ) → ((k t : ℕ) → k < n → t < 64 → eqb (bit_at (get_or new k 0) t) 1 ≡ (eqb (bit_at (get_or ws k 0) t) 1 && not (eqb (bit_at (get_or rs k 0) t) 1))) →
    (j : ℕ) → j < 64 * n → has_bit new j ≡ (has_bit ws j && not (has_bit rs j))
unfolding has_bit
words_less ws rs new n f j h = f (j / 64) (j % 64) (omega arith) (omega arith)

pub words_less_three : (ws xs ys zs new : List ℕ) (n : ℕ) → ((k : ℕ) → k < n → IsLess (get_or new k 0) (get_or ws k 0) (get_or xs k 0) (get_or ys k 0) (get_or zs k 0)) →
    (j : ℕ) → j < 64 * n → has_bit new j ≡ (has_bit ws j && not (has_bit xs j || (has_bit ys j || has_bit zs j)))
unfolding has_bit
words_less_three ws xs ys zs new n f j h = f (j / 64) (omega arith) (j % 64) (omega arith)

pub words_less_six : (ws xa xb xc xd xe xf new : List ℕ) (n : ℕ) → ((k : ℕ) → k < n → IsLessSix (get_or new k 0) (get_or ws k 0) (get_or xa k 0) (get_or xb k 0) (get_or xc k 0) (get_or xd k 0) (get_or xe k 0) (get_or xf k 0)) →
    (j : ℕ) → j < 64 * n → has_bit new j ≡ (has_bit ws j && not (has_bit xa j || (has_bit xb j || (has_bit xc j || (has_bit xd j || (has_bit xe j || has_bit xf j))))))
unfolding has_bit
words_less_six ws xa xb xc xd xe xf new n f j h = f (j / 64) (omega arith) (j % 64) (omega arith)

pub not_six : (w a b c y : Bool) → ((w && not (a || (b || c))) && not y) ≡ (w && not (a || (b || (c || y))))
not_six false a b c y = refl
not_six true true b c y = refl
not_six true false true c y = refl
not_six true false false true y = refl
not_six true false false false y = refl

pub not_three : (w a b c : Bool) → (((w && not a) && not b) && not c) ≡ (w && not (a || (b || c)))
not_three false a b c = refl
not_three true true b c = refl
not_three true false true c = refl
not_three true false false c = refl

-- what held of each entry holds of each entry and the one that is appended
pub pushed : (xs new : List ℕ) (x k : ℕ) (P : ℕ → ℕ → Type 0) → new ≡ xs ++ x ∷ [] → length xs ≡ k → ((i : ℕ) → i < k → P i (get_or xs i 0)) → P k x → (i : ℕ) → i < k + 1 → P i (get_or new i 0)
pushed xs new x k P items len before last i h = subst (λ (ys : List ℕ). P i (get_or ys i 0)) (sym items) (elim (cases_lt i k) [
  | inl l ↦ subst (λ (y : ℕ). P i y) (sym (get_or_append_left xs (x ∷ []) 0 i (omega (arith, l, len)))) (before i l)
  | inr g ↦ subst (λ (n : ℕ). P n (get_or (xs ++ x ∷ []) n 0)) (omega (arith, g, h)) (subst (λ (y : ℕ). P k y) (sym (ap (λ n. get_or (xs ++ x ∷ []) n 0) (sym len) ∙ get_or-append_seam xs x [] 0)) last)
])

-- what held of each word from `low` on and below `k`, and of the new word, holds of each word from `low` on and below `k + 1`
pub put_done : (ws : List ℕ) (k x low : ℕ) (P : ℕ → ℕ → Type 0) → k < length ws → ((i : ℕ) → low ≤ i → i < k → P i (get_or ws i 0)) → P k x →
    (i : ℕ) → low ≤ i → i < k + 1 → P i (get_or (set ws k x) i 0)
put_done ws k x low P size before new i g h = elim (cases_eq i k) [
  | inl e ↦ subst (λ (n : ℕ). P n (get_or (set ws k x) n 0)) (sym e) (subst (λ (y : ℕ). P k y) (sym (same_at ws k x k size refl)) new)
  | inr n ↦ subst (λ (y : ℕ). P i y) (sym (other_at ws k x i n)) (before i g (omega (arith, h, n)))
]

-- four words that stand one after another are written
module _ (ws : List ℕ) (k a b c d : ℕ) (size : k + 3 < length ws) where
  abbrev pub four_set : List ℕ
  four_set = set (set (set (set ws k a) (k + 1) b) (k + 2) c) (k + 3) d

  len_one : length (set ws k a) ≡ length ws
  len_one = length-set ws k a

  len_two : length (set (set ws k a) (k + 1) b) ≡ length ws
  len_two = length-set (set ws k a) (k + 1) b ∙ len_one

  len_three : length (set (set (set ws k a) (k + 1) b) (k + 2) c) ≡ length ws
  len_three = length-set (set (set ws k a) (k + 1) b) (k + 2) c ∙ len_two

  pub four_len : length four_set ≡ length ws
  four_len = length-set (set (set (set ws k a) (k + 1) b) (k + 2) c) (k + 3) d ∙ len_three

  past_four : (i : ℕ) → (i ≡ k + 3 → ⊥) → get_or four_set i 0 ≡ get_or (set (set (set ws k a) (k + 1) b) (k + 2) c) i 0
  past_four i n = other_at (set (set (set ws k a) (k + 1) b) (k + 2) c) (k + 3) d i n

  past_three : (i : ℕ) → (i ≡ k + 2 → ⊥) → get_or (set (set (set ws k a) (k + 1) b) (k + 2) c) i 0 ≡ get_or (set (set ws k a) (k + 1) b) i 0
  past_three i n = other_at (set (set ws k a) (k + 1) b) (k + 2) c i n

  past_two : (i : ℕ) → (i ≡ k + 1 → ⊥) → get_or (set (set ws k a) (k + 1) b) i 0 ≡ get_or (set ws k a) i 0
  past_two i n = other_at (set ws k a) (k + 1) b i n

  pub four_other : (i : ℕ) → (i < k) ⊎ (k + 4 ≤ i) → get_or four_set i 0 ≡ get_or ws i 0
  four_other i (inl h) = past_four i (λ e. absurd (omega arith)) ∙ past_three i (λ e. absurd (omega arith)) ∙ past_two i (λ e. absurd (omega arith)) ∙ other_at ws k a i (λ e. absurd (omega arith))
  four_other i (inr h) = past_four i (λ e. absurd (omega arith)) ∙ past_three i (λ e. absurd (omega arith)) ∙ past_two i (λ e. absurd (omega arith)) ∙ other_at ws k a i (λ e. absurd (omega arith))

  pub four_a : get_or four_set k 0 ≡ a
  four_a = past_four k (λ e. absurd (omega arith)) ∙ past_three k (λ e. absurd (omega arith)) ∙ past_two k (λ e. absurd (omega arith)) ∙ same_at ws k a k (omega (arith, size)) refl

  pub four_b : get_or four_set (k + 1) 0 ≡ b
  four_b = past_four (k + 1) (λ e. absurd (omega arith)) ∙ past_three (k + 1) (λ e. absurd (omega arith)) ∙ same_at (set ws k a) (k + 1) b (k + 1) (omega (arith, size, len_one)) refl

  pub four_c : get_or four_set (k + 2) 0 ≡ c
  four_c = past_four (k + 2) (λ e. absurd (omega arith)) ∙ same_at (set (set ws k a) (k + 1) b) (k + 2) c (k + 2) (omega (arith, size, len_two)) refl

  pub four_d : get_or four_set (k + 3) 0 ≡ d
  four_d = same_at (set (set (set ws k a) (k + 1) b) (k + 2) c) (k + 3) d (k + 3) (omega (arith, size, len_three)) refl

  -- what held of each word below `k` and of the four new words holds of each word below `k + 4`
  pub four_done : (P : ℕ → ℕ → Type 0) → ((i : ℕ) → i < k → P i (get_or ws i 0)) → P k a → P (k + 1) b → P (k + 2) c → P (k + 3) d → (i : ℕ) → i < k + 4 → P i (get_or four_set i 0)
  four_done P low pa pb pc pd i h = elim (cases_lt i k) [
    | inl l ↦ subst (λ (x : ℕ). P i x) (sym (four_other i (inl l))) (low i l)
    | inr g ↦ elim (cases_eq i k) [
      | inl e ↦ subst (λ (n : ℕ). P n (get_or four_set n 0)) (sym e) (subst (λ (x : ℕ). P k x) (sym four_a) pa)
      | inr na ↦ elim (cases_eq i (k + 1)) [
        | inl e ↦ subst (λ (n : ℕ). P n (get_or four_set n 0)) (sym e) (subst (λ (x : ℕ). P (k + 1) x) (sym four_b) pb)
        | inr nb ↦ elim (cases_eq i (k + 2)) [
          | inl e ↦ subst (λ (n : ℕ). P n (get_or four_set n 0)) (sym e) (subst (λ (x : ℕ). P (k + 2) x) (sym four_c) pc)
          | inr nc ↦
              let last : i ≡ k + 3 = omega (arith, na, nb, nc) in
              subst (λ (n : ℕ). P n (get_or four_set n 0)) (sym last) (subst (λ (x : ℕ). P (k + 3) x) (sym four_d) pd)
        ]
      ]
    ]
  ]

-- a number whose word is 0 is not in the set
pub past_none : (ws : List ℕ) (x : ℕ) → get_or ws (x / 64) 0 ≡ 0 → has_bit ws x ≡ false
unfolding has_bit
past_none ws x e = ap (λ w. eqb (bit_at w (x % 64)) 1) e ∙ ap (λ y. eqb y 1) (bit_at-zero (x % 64))

pub take_bits : (ws : List ℕ) (n x : ℕ) → x < 64 * n → has_bit (take n ws) x ≡ has_bit ws x
take_bits ws n x h = same_word ws (take n ws) x (get_or-take n ws (x / 64) 0 (omega arith))

get_same : (n k z : ℕ) → get_or (replicate n z) k z ≡ z
get_same zero k z = refl
get_same (suc n) zero z = refl
get_same (suc n) (suc k) z = get_same n k z

pub drop_bits : (ws : List ℕ) (n j : ℕ) → has_bit (drop n ws) j ≡ has_bit ws (64 * n + j)
drop_bits ws n j =
    let zero_row : j ≡ 64 * 0 + j = omega arith in
    let first : 0 + j / 64 ≡ j / 64 = omega arith in
    ap (λ x. has_bit (drop n ws) x) zero_row ∙ same_row ws (drop n ws) n 0 j (ap (λ k. get_or (drop n ws) k 0) first ∙ get_or-drop n ws (j / 64) 0)

-- the bits of a part of a list
pub part_bits : (ws : List ℕ) (at w n j : ℕ) → n ≡ w → j < 64 * w → has_bit (take n (drop at ws)) j ≡ has_bit ws (64 * at + j)
part_bits ws at w n j e h = take_bits (drop at ws) n j (omega (arith, e, h)) ∙ drop_bits ws at j

pub no_bits : (n x : ℕ) → has_bit (replicate n 0) x ≡ false
no_bits n x = past_none (replicate n 0) x (get_same n (x / 64) 0)

-- shifting a word right by `low` moves bit `low + t` to bit `t`
shifted : (w low t : ℕ) → bit_at (w / 2 ^ low) t ≡ bit_at w (low + t)
shifted w low t = ap (λ x. x % 2) (shr-shr w low t)

bit_of : (w low t : ℕ) → low ≤ t → bit_at w t ≡ bit_at (w / 2 ^ low) (t - low)
bit_of w low t h = sym (shifted w low (t - low) ∙ ap (λ x. bit_at w x) (omega arith))

pub none_from : (w low : ℕ) → w / 2 ^ low ≡ 0 → NoneIn (λ t. eqb (bit_at w t) 1) low 64
none_from w low e = λ t h l. ap (λ b. eqb b 1) (bit_of w low t h ∙ ap (λ x. bit_at x (t - low)) e ∙ bit_at-zero (t - low))

pub first_from : (w low : ℕ) → w < 2 ^ 64 → (w / 2 ^ low ≡ 0 → ⊥) → FirstIn (λ t. eqb (bit_at w t) 1) low 64 (low + trailing_zeros w64 (w / 2 ^ low))
first_from w low small some =
    let rest = w / 2 ^ low in
    let z = trailing_zeros w64 rest in
    let less : rest ≤ w = div-le_self w (2 ^ low) in
    let at = bit_at-trailing_zeros w64 rest (omega (arith, some)) (omega (arith, less, small)) in
    let one : bit_at w (low + z) ≡ 1 = sym (shifted w low z) ∙ at.1 in
    record {
      least = omega arith;
      most = below_word (low + z) one;
      is = eq-eqb _ _ one;
      before = λ t h l. ap (λ b. eqb b 1) (bit_of w low t h ∙ at.2 (t - low) (omega arith));
    }
  where
    below_word : (t : ℕ) → bit_at w t ≡ 1 → t < 64
    below_word t e = elim (cases_lt t 64) [
      | inl h ↦ h
      | inr n ↦ absurd (omega (arith, e, bit_at_above w 64 t small (omega (arith, n))))
    ]

and_both : (x y : ℕ) → x < 2 → y < 2 → eqb (min x y) 1 ≡ (eqb x 1 && eqb y 1)
and_both zero zero h k = refl
and_both zero (suc zero) h k = refl
and_both zero (suc (suc y)) h k = absurd (omega arith)
and_both (suc zero) zero h k = refl
and_both (suc zero) (suc zero) h k = refl
and_both (suc zero) (suc (suc y)) h k = absurd (omega arith)
and_both (suc (suc x)) y h k = absurd (omega arith)

pub bit_both : (w r t : ℕ) → eqb (bit_at (bit_and w r) t) 1 ≡ (eqb (bit_at w t) 1 && eqb (bit_at r t) 1)
bit_both w r t = ap (λ x. eqb x 1) (bit_at_and w r t) ∙ and_both (bit_at w t) (bit_at r t) (bit_at-lt w t) (bit_at-lt r t)

-- bit t of the bits that two words share says whether both rows have number `64 * k + t`
pub both_word : (ws : List ℕ) (at : ℕ) (rs : List ℕ) (from k w t : ℕ) →
    ((u : ℕ) → eqb (bit_at w u) 1 ≡ (eqb (bit_at (get_or ws (at + k) 0) u) 1 && eqb (bit_at (get_or rs (from + k) 0) u) 1)) → t < 64 →
    in_both ws at rs from (64 * k + t) ≡ eqb (bit_at w t) 1
both_word ws at rs from k w t h l =
    ap (λ b. b && has_bit rs (64 * from + (64 * k + t))) (bit_in ws at) ∙ ap (λ b. eqb (bit_at (get_or ws (at + k) 0) t) 1 && b) (bit_in rs from) ∙ sym (h t)
  where
    bit_in : (xs : List ℕ) (o : ℕ) → has_bit xs (64 * o + (64 * k + t)) ≡ eqb (bit_at (get_or xs (o + k) 0) t) 1
    bit_in xs o =
        in_word xs o (64 * k + t) ∙ ap (λ n. eqb (bit_at (get_or xs (o + n) 0) ((64 * k + t) % 64)) 1) (omega arith)
        ∙ ap (λ n. eqb (bit_at (get_or xs (o + k) 0) n) 1) (omega arith)

-- searching word k of two rows, if the rows share no number from `low` on that comes before bit `past` of that word
module _ (ws : List ℕ) (at : ℕ) (rs : List ℕ) (from low k past w : ℕ)
    (same : (u : ℕ) → eqb (bit_at w u) 1 ≡ (eqb (bit_at (get_or ws (at + k) 0) u) 1 && eqb (bit_at (get_or rs (from + k) 0) u) 1))
    (passed : NoneIn (in_both ws at rs from) low (64 * k + past)) where
  pub none_both : (n : ℕ) → n ≤ 64 → NoneIn (λ t. eqb (bit_at w t) 1) past n → NoneIn (in_both ws at rs from) low (64 * k + n)
  none_both n h none = λ x l m. elim (cases_lt x (64 * k + past)) [
    | inl b ↦ passed x l b
    | inr b ↦
        ap (λ y. in_both ws at rs from y) (omega arith) ∙ both_word ws at rs from k w (x - 64 * k) same (omega arith)
        ∙ none (x - 64 * k) (omega arith) (omega arith)
  ]

  pub first_both : (width t : ℕ) → k < width → low ≤ 64 * k + past → FirstIn (λ t. eqb (bit_at w t) 1) past 64 t → FirstIn (in_both ws at rs from) low (64 * width) (64 * k + t)
  first_both width t h l f =
      record {
        least = omega (arith, f.least);
        most = omega (arith, f.most);
        is = both_word ws at rs from k w t same f.most ∙ f.is;
        before = none_both t (omega (arith, f.most)) f.before;
      }

full_at : (n x k : ℕ) → k < n → get_or (replicate n x) k 0 ≡ x
full_at zero x k h = absurd (omega arith)
full_at (suc n) x zero h = refl
full_at (suc n) x (suc k) h = full_at n x k (omega arith)

-- a list that was emptied and then made longer with copies of one value
pub filled : (n k x : ℕ) (xs ys : List ℕ) → xs ≡ [] → k ≡ 0 → ys ≡ take n xs ++ replicate (n - k) x → ys ≡ replicate n x
filled n k x xs ys e z f =
    let all : n - k ≡ n = omega (arith, z) in
    f ∙ ap (λ zs. take n zs ++ replicate (n - k) x) e ∙ ap (λ zs. zs ++ replicate (n - k) x) (none n) ∙ ap (λ m. replicate m x) all
  where
    none : (n : ℕ) → ◌≡◌ {A = List ℕ} (take n []) []
    none zero = refl
    none (suc n) = refl

-- a list of which the first entries were written is as long as before, and has the entries that were written
pub written_len : (new old : List ℕ) (n : ℕ) → n ≡ length old → length (take n (new ++ drop (length new) old)) ≡ length old
written_len new old n e = length-take-le n (new ++ drop (length new) old) (omega (arith, e, length-append new (drop (length new) old), length-drop (length new) old)) ∙ e

pub written_at : (new tail : List ℕ) (n b : ℕ) → b < n → b < length new → get_or (take n (new ++ tail)) b 0 ≡ get_or new b 0
written_at new tail n b h l = get_or-take n (new ++ tail) b 0 h ∙ get_or_append_left new tail 0 b l

-- part of a list is replaced by as many other words
module _ (old new post tail : List ℕ) (n at w : ℕ) (size : length old ≡ n) (fits : at + w ≤ n) (same : length new ≡ w) where
  abbrev pub replaced : List ℕ
  replaced = take n (take at old ++ (new ++ post) ++ tail)

  front : length (take at old) ≡ at
  front = length-take-le at old (omega (arith, size, fits))

  long : (k : ℕ) → k < w → at + k < length (take at old ++ (new ++ post))
  long k h = omega (arith, h, front, same, length-append (take at old) (new ++ post), length-append new post)

  pub replaced_before : (k : ℕ) → k < at → get_or replaced k 0 ≡ get_or old k 0
  replaced_before k h =
      get_or-take n (take at old ++ (new ++ post) ++ tail) k 0 (omega (arith, fits))
      ∙ get_or_append_left (take at old ++ (new ++ post)) tail 0 k (omega (arith, front, length-append (take at old) (new ++ post)))
      ∙ get_or_append_left (take at old) (new ++ post) 0 k (omega (arith, front))
      ∙ get_or-take at old k 0 h

  pub replaced_at : (k : ℕ) → k < w → get_or replaced (at + k) 0 ≡ get_or new k 0
  replaced_at k h =
      get_or-take n (take at old ++ (new ++ post) ++ tail) (at + k) 0 (omega (arith, fits))
      ∙ get_or_append_left (take at old ++ (new ++ post)) tail 0 (at + k) (long k h)
      ∙ ap (λ i. get_or (take at old ++ (new ++ post)) (i + k) 0) (sym front)
      ∙ get_or-append-add (take at old) (new ++ post) k 0
      ∙ get_or_append_left new post 0 k (omega (arith, same))

  pub replaced_bits : (j : ℕ) → j < 64 * w → has_bit replaced (64 * at + j) ≡ has_bit new j
  replaced_bits j h =
      let zero_row : 64 * 0 + j ≡ j = omega arith in
      let first : j / 64 ≡ 0 + j / 64 = omega arith in
      same_row new replaced 0 at j (replaced_at (j / 64) (omega (arith, h)) ∙ ap (λ k. get_or new k 0) first) ∙ ap (λ x. has_bit new x) zero_row

-- the word at an index of a part of a list
pub part_at : (xs : List ℕ) (at w n k : ℕ) → n ≡ w → k < w → get_or (take n (drop at xs)) k 0 ≡ get_or xs (at + k) 0
part_at xs at w n k e h = get_or-take n (drop at xs) k 0 (omega (arith, e)) ∙ get_or-drop at xs k 0

pub part_len : (xs : List ℕ) (at w n : ℕ) → n ≡ w → at + w ≤ length xs → length (take n (drop at xs)) ≡ w
part_len xs at w n e h = length-take-le n (drop at xs) (omega (arith, e, h, length-drop at xs)) ∙ e

-- a list that is put together from two parts
module _ (front new tail : List ℕ) (n w size : ℕ) (low : length front ≡ n) (same : length new ≡ w) (whole : size ≡ n + w) where
  abbrev pub joined : List ℕ
  joined = take size ((front ++ new) ++ tail)

  pub joined_before : (k : ℕ) → k < n → get_or joined k 0 ≡ get_or front k 0
  joined_before k h =
      get_or-take size ((front ++ new) ++ tail) k 0 (omega (arith, h, whole))
      ∙ get_or_append_left (front ++ new) tail 0 k (omega (arith, h, low, length-append front new))
      ∙ get_or_append_left front new 0 k (omega (arith, h, low))

  pub joined_at : (k : ℕ) → k < w → get_or joined (n + k) 0 ≡ get_or new k 0
  joined_at k h =
      get_or-take size ((front ++ new) ++ tail) (n + k) 0 (omega (arith, h, whole))
      ∙ get_or_append_left (front ++ new) tail 0 (n + k) (omega (arith, h, low, same, length-append front new))
      ∙ ap (λ i. get_or (front ++ new) (i + k) 0) (sym low)
      ∙ get_or-append-add front new k 0
