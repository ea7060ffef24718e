-- How the rows and the `stands` of a matrix are made, and how a row is cut off.
use Rattle.std.proofs.Common.{◌≡◌, ℕ, zero, suc, ◌+◌, ◌++◌, ◌-◌, ◌*◌, ◌/◌, ◌%◌, ◌<◌, ◌≤◌, Bool, true, false, max, ◌&&◌, ◌||◌, eqb, ltb, List, [], ◌∷◌, inl, inr, refl, sym, ap, subst, ◌∙◌, arith, length, get_or, take, replicate}
use Rattle.std.specs.List.{list_any, list_all}
use Rattle.std.proofs.Math.ListN.{set}
use Rattle.std.proofs.Math.Nat.{mul-le-mul_left}
use Rattle.std.proofs.lemmas.Bool.{and_from, and_parts, cases_eq, cases_lt, eq-eqb, eqb-true, false_from_ne_true, lt-ltb, ltb-true, ne_eqb, or_left, or_right, true≢false}
use Rattle.std.proofs.lemmas.List.{get_or-append-add, get_or-append_right, get_or-replicate, get_or-set_other, get_or-set_same, get_or_append_left, length-replicate, take_all, take_more}
use Rattle.std.proofs.lemmas.Nat.Bits.{bit_at-zero}
use Rattle.std.specs.Int.{bit_at}
use Rattle.poly_tiling.specs.Lists.{distinct, one}
use Rattle.poly_tiling.specs.Puzzle.{View, has_item, items}
use Rattle.poly_tiling.proofs.Lists.{all_append, any_from, any_in, same_truth}
use Rattle.poly_frame.specs.Bits.{has_bit}
use Rattle.poly_frame.specs.FrameItems.{Noted, item_of, times}
use Rattle.poly_frame.specs.Matrices.{RowsShow, bit_index}
use Rattle.poly_frame.proofs.Words.{no_bits, same_row, same_word}
use Rattle.poly_frame.proofs.FramePicks.{one_true, some_times, times_some}
use Rattle.poly_frame.proofs.FrameSteps.{distinct_at}

-- a bit's index says which row and which number
pub bit_index_once : (w a b i j : ℕ) → i < 64 * w → j < 64 * w → bit_index w a i ≡ bit_index w b j → (a ≡ b) × (i ≡ j)
bit_index_once w a b i j h l e = elim (cases_eq a b) [
  | inl s ↦ (s, let t = ap (λ n. w * n) s in omega arith)
  | inr n ↦ elim (cases_lt a b) [
    | inl x ↦ absurd (let t = mul-le-mul_left {m = a + 1} {n = b} w (omega arith) in omega arith)
    | inr y ↦ absurd (let t = mul-le-mul_left {m = b + 1} {n = a} w (omega arith) in omega arith)
  ]
]

module _ (v : View) (ns : List ℕ) (w k : ℕ) (rows new rs : List ℕ) (h : k < length ns) (wide : length ns ≤ 64 * w) (noted : Noted v.bounds (items v (get_or ns k 0)) rs)
    (inv : (b i : ℕ) → b < length v.bounds → i < 64 * w → has_bit rows (bit_index w b i) ≡ (ltb i k && has_item v (get_or ns i 0) (item_of v b)))
    (bits : (x : ℕ) → has_bit new x ≡ (has_bit rows x || list_any (λ b. eqb (bit_index w b k) x) rs)) where
  put_says : (b i : ℕ) → b < length v.bounds → i < 64 * w → list_any (λ c. eqb (bit_index w c k) (bit_index w b i)) rs ≡ (eqb k i && has_item v (get_or ns k 0) (item_of v b))
  put_says b i l g = same_truth _ _
      (λ t.
      let r = any_in (λ c. eqb (bit_index w c k) (bit_index w b i)) rs t in
      let s = bit_index_once w r.0 b k i (omega arith) g (eqb-true _ _ r.2) in
      let c : 1 ≤ times rs b = subst (λ n. 1 ≤ times rs n) s.0 (times_some rs r.0 r.1) in
      and_from _ _ (eq-eqb k i s.1) (one_true _ (omega (arith, c, noted.once b l))))
      (λ t.
      let ts = and_parts (eqb k i) _ t in
      any_from (λ c. eqb (bit_index w c k) (bit_index w b i)) rs b (some_times rs b (omega (arith, noted.once b l, ap one ts.1))) (eq-eqb _ _ (ap (λ n. bit_index w b n) (eqb-true k i ts.0))))

  pub rows_step : (b i : ℕ) → b < length v.bounds → i < 64 * w → has_bit new (bit_index w b i) ≡ (ltb i (k + 1) && has_item v (get_or ns i 0) (item_of v b))
  rows_step b i l g = bits (bit_index w b i) ∙ ap (λ x. x || list_any (λ c. eqb (bit_index w c k) (bit_index w b i)) rs) (inv b i l g) ∙ ap (λ x. (ltb i k && has_item v (get_or ns i 0) (item_of v b)) || x) (put_says b i l g)
      ∙ (elim (cases_eq k i) [
        | inl e ↦ at_here (ltb i k) (eqb k i) (ltb i (k + 1)) _ _ (false_from_ne_true _ (λ t. let u = ltb-true i k t in absurd (omega arith))) (eq-eqb k i e) (lt-ltb i (k + 1) (omega arith)) (ap (λ n. has_item v (get_or ns n 0) (item_of v b)) e)
        | inr n ↦ at_other (ltb i k) (eqb k i) (ltb i (k + 1)) _ _ (ne_eqb k i n) (same_truth _ _ (λ t. let u = ltb-true i k t in lt-ltb i (k + 1) (omega arith)) (λ t. let u = ltb-true i (k + 1) t in lt-ltb i k (omega arith)))
      ])
    where
      at_here : (a b c x y : Bool) → a ≡ false → b ≡ true → c ≡ true → y ≡ x → ((a && x) || (b && y)) ≡ (c && x)
      at_here true b c x y e f g s = absurd (true≢false e)
      at_here false b c x y e f g s = ap (λ z. z && y) f ∙ s ∙ ap (λ z. z && x) (sym g)

      at_other : (a b c x y : Bool) → b ≡ false → a ≡ c → ((a && x) || (b && y)) ≡ (c && x)
      at_other a true c x y e f = absurd (true≢false e)
      at_other a false c x y e f = or_none (a && x) ∙ ap (λ z. z && x) f
        where
          or_none : (b : Bool) → (b || false) ≡ b
          or_none true = refl
          or_none false = refl

pub rows_done : (v : View) (ns : List ℕ) (w n : ℕ) (rows : List ℕ) → n ≡ length ns → length ns ≤ 64 * w → ((b i : ℕ) → b < length v.bounds → i < 64 * w → has_bit rows (bit_index w b i) ≡ (ltb i n && has_item v (get_or ns i 0) (item_of v b))) → RowsShow v ns w rows
rows_done v ns w n rows e wide inv b j l h = inv b j l (omega arith) ∙ ap (λ x. x && has_item v (get_or ns j 0) (item_of v b)) (lt-ltb j n (omega arith))

pub stands_step : (ns stands : List ℕ) (k : ℕ) → distinct ns ≡ true → k < length ns → get_or ns k 0 < length stands → ((i : ℕ) → i < k → get_or stands (get_or ns i 0) 0 ≡ i) → (i : ℕ) → i < k + 1 → get_or (set stands (get_or ns k 0) k) (get_or ns i 0) 0 ≡ i
stands_step ns stands k d h low inv i l = elim (cases_eq i k) [
  | inl e ↦ ap (λ n. get_or (set stands (get_or ns k 0) k) (get_or ns n 0) 0) e ∙ (rw get_or-set_same (sym e))
  | inr n ↦
      let apart : get_or ns i 0 ≡ get_or ns k 0 → ⊥ = λ e. n (distinct_at ns i k d (omega arith) h e) in
      (rw get_or-set_other (inv i (omega arith)))
]

pub above_at : (ns : List ℕ) (s k : ℕ) → list_all (λ p. ltb p s) ns ≡ true → k < length ns → get_or ns k 0 < s
above_at [] s k a h = absurd (omega arith)
above_at (n ∷ ns) s zero a h = ltb-true n s (and_parts (ltb n s) _ a).0
above_at (n ∷ ns) s (suc k) a h = above_at ns s k (and_parts (ltb n s) (list_all (λ p. ltb p s) ns) a).1 (omega arith)

above_more : (ns : List ℕ) (s u : ℕ) → s ≤ u → list_all (λ p. ltb p s) ns ≡ true → list_all (λ p. ltb p u) ns ≡ true
above_more [] s u h a = refl
above_more (n ∷ ns) s u h a = let p = and_parts (ltb n s) (list_all (λ p. ltb p s) ns) a in and_from _ _ (lt-ltb n u (omega (arith, ltb-true n s p.0))) (above_more ns s u h p.1)

pub size_step : (ns : List ℕ) (k s u : ℕ) → k < length ns → u ≡ max s (get_or ns k 0 + 1) → list_all (λ p. ltb p s) (take k ns) ≡ true → list_all (λ p. ltb p u) (take (k + 1) ns) ≡ true
size_step ns k s u h e a = ap (λ xs. list_all (λ p. ltb p u) xs) (take_more ns k 0 h) ∙ all_append (λ p. ltb p u) (take k ns) (get_or ns k 0 ∷ []) ∙ and_from _ _ (above_more (take k ns) s u (omega arith) a) (and_from _ _ (lt-ltb (get_or ns k 0) u (omega arith)) refl)

pub rows_start : (rows : List ℕ) (n x i : ℕ) (h : Bool) → rows ≡ replicate n 0 → has_bit rows x ≡ (ltb i 0 && h)
rows_start rows n x i h e = ap (λ ws. has_bit ws x) e ∙ no_bits n x ∙ sym (ap (λ b. b && h) (false_from_ne_true (ltb i 0) (λ y. let l = ltb-true i 0 y in absurd (omega arith))))

-- a row that begins with `a` words that have all bits, followed by words that have none
pub begun_row : (a w x k : ℕ) (row1 row2 : List ℕ) → row1 ≡ replicate a x → k ≡ a → a ≤ w → row2 ≡ take w row1 ++ replicate (w - k) 0 → row2 ≡ replicate a x ++ replicate (w - a) 0
begun_row a w x k row1 row2 e z h f =
    f ∙ ap (λ zs. take w zs ++ replicate (w - k) 0) e ∙ ap (λ zs. zs ++ replicate (w - k) 0) (take_all w (replicate a x) (omega (arith, length-replicate a x, h))) ∙ ap (λ n. replicate a x ++ replicate (w - n) 0) z

pub begun_low : (a w x j : ℕ) (row : List ℕ) → row ≡ replicate a x ++ replicate (w - a) 0 → ((t : ℕ) → t < 64 → bit_at x t ≡ 1) → j < 64 * a → has_bit row j ≡ true
unfolding has_bit
begun_low a w x j row e ones h =
    ap (λ ws. eqb (bit_at (get_or ws (j / 64) 0) (j % 64)) 1) e
    ∙ ap (λ n. eqb (bit_at n (j % 64)) 1) (get_or_append_left (replicate a x) (replicate (w - a) 0) 0 (j / 64) (omega (arith, length-replicate a x, h)))
    ∙ ap (λ n. eqb (bit_at n (j % 64)) 1) (get_or-replicate a (j / 64) x 0 (omega (arith, h))) ∙ ap (λ b. eqb b 1) (ones (j % 64) (omega arith))

pub begun_high : (a w x j : ℕ) (row : List ℕ) → row ≡ replicate a x ++ replicate (w - a) 0 → 64 * a ≤ j → has_bit row j ≡ false
unfolding has_bit
begun_high a w x j row e h =
    ap (λ ws. eqb (bit_at (get_or ws (j / 64) 0) (j % 64)) 1) e
    ∙ ap (λ n. eqb (bit_at n (j % 64)) 1) (get_or-append_right (replicate a x) (replicate (w - a) 0) a (j / 64) 0 (length-replicate a x) (omega (arith, h)))
    ∙ ap (λ n. eqb (bit_at n (j % 64)) 1) (zero_at (w - a) (j / 64 - a)) ∙ ap (λ b. eqb b 1) (bit_at-zero (j % 64))
  where
    zero_at : (n k : ℕ) → ◌≡◌ {A = ℕ} (get_or (replicate n 0) k 0) 0
    zero_at zero k = refl
    zero_at (suc n) zero = refl
    zero_at (suc n) (suc k) = zero_at n k

-- putting in number j, after those before it
pub put_inside : (old new : List ℕ) (j i : ℕ) → ((x : ℕ) → has_bit new x ≡ (has_bit old x || eqb (64 * 0 + j) x)) → (i < j → has_bit old i ≡ true) → i < j + 1 → has_bit new i ≡ true
put_inside old new j i put before h = elim (cases_eq j i) [
  | inl e ↦ put i ∙ or_right (has_bit old i) (eqb (64 * 0 + j) i) (eq-eqb (64 * 0 + j) i (omega (arith, e)))
  | inr d ↦ put i ∙ or_left (has_bit old i) (eqb (64 * 0 + j) i) (before (omega (arith, d, h)))
]

pub put_past : (old new : List ℕ) (j i : ℕ) → ((x : ℕ) → has_bit new x ≡ (has_bit old x || eqb (64 * 0 + j) x)) → (j ≤ i → has_bit old i ≡ false) → j + 1 ≤ i → has_bit new i ≡ false
put_past old new j i put before h = put i ∙ ap (λ b. b || eqb (64 * 0 + j) i) (before (omega arith)) ∙ ne_eqb (64 * 0 + j) i (λ e. absurd (omega (arith, e, h)))

-- rows that begin k words before the end of another list of words
module _ (front tail new : List ℕ) (w k t : ℕ) (rs : List ℕ) (size : length front ≡ k)
    (bits : (y : ℕ) → has_bit new y ≡ (has_bit tail y || list_any (λ b. eqb (bit_index w b t) y) rs)) where
  past_front : (xs : List ℕ) (y : ℕ) → has_bit (front ++ xs) (64 * k + y) ≡ has_bit xs y
  past_front xs y =
      let first : 0 + y / 64 ≡ y / 64 = omega arith in
      let zero_row : 64 * 0 + y ≡ y = omega arith in
      same_row xs (front ++ xs) 0 k y (ap (λ n. get_or (front ++ xs) (n + y / 64) 0) (sym size) ∙ get_or-append-add front xs (y / 64) 0 ∙ ap (λ n. get_or xs n 0) (sym first)) ∙ ap (λ n. has_bit xs n) zero_row

  in_front : (xs : List ℕ) (x : ℕ) → x < 64 * k → get_or (front ++ xs) (x / 64) 0 ≡ get_or front (x / 64) 0
  in_front xs x h = get_or_append_left front xs 0 (x / 64) (omega (arith, h, size))

  no_more : (b c : Bool) → c ≡ false → b ≡ (b || c)
  no_more true c e = refl
  no_more false c e = sym e

  pub put_past_front : (x : ℕ) → has_bit (front ++ new) x ≡ (has_bit (front ++ tail) x || list_any (λ b. eqb (bit_index w b (64 * k + t)) x) rs)
  put_past_front x = elim (cases_lt x (64 * k)) [
    | inl h ↦
        same_word (front ++ tail) (front ++ new) x (in_front new x h ∙ sym (in_front tail x h))
        ∙ no_more _ _ (false_from_ne_true _ (λ y. let r = any_in (λ b. eqb (bit_index w b (64 * k + t)) x) rs y in absurd (omega (arith, h, eqb-true _ _ r.2))))
    | inr h ↦
        let y = x - 64 * k in
        let here : x ≡ 64 * k + y = omega (arith, h) in
        let same : (b : ℕ) → eqb (bit_index w b t) y ≡ eqb (bit_index w b (64 * k + t)) x =
        λ b. same_truth _ _ (λ s. eq-eqb _ _ (omega (arith, h, eqb-true _ _ s))) (λ s. eq-eqb _ _ (omega (arith, h, eqb-true _ _ s))) in
        ap (λ n. has_bit (front ++ new) n) here ∙ past_front new y ∙ bits y
        ∙ ap (λ b. b || list_any (λ b. eqb (bit_index w b t) y) rs) (sym (past_front tail y) ∙ ap (λ n. has_bit (front ++ tail) n) (sym here))
        ∙ ap (λ b. has_bit (front ++ tail) x || b) (any_same _ _ rs same)
  ]
    where
      any_same : (f g : ℕ → Bool) (xs : List ℕ) → ((n : ℕ) → f n ≡ g n) → list_any f xs ≡ list_any g xs
      any_same f g [] e = refl
      any_same f g (n ∷ xs) e = ap (λ b. b || list_any f xs) (e n) ∙ ap (λ b. g n || b) (any_same f g xs e)

-- the first words of the rows of these indices are inside the words from word k on
pub inside_past : (w items k n : ℕ) (rs : List ℕ) → k < w → n + k ≡ w * items → list_all (λ b. ltb b items) rs ≡ true → list_all (λ b. ltb (w * b) n) rs ≡ true
inside_past w items k n [] h e a = refl
inside_past w items k n (b ∷ rs) h e a =
    let p = and_parts (ltb b items) (list_all (λ b. ltb b items) rs) a in
    let fits = mul-le-mul_left {m = b + 1} {n = items} w (omega (arith, ltb-true b items p.0)) in
    and_from _ _ (lt-ltb (w * b) n (omega (arith, fits, h, e))) (inside_past w items k n rs h e p.1)
