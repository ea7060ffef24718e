-- Masks of items: which bits are set in the mask of each number.
use Rattle.std.proofs.Common.{Bool, List, [], ap, arith, bit_or, eqb, false, get_or, get_or-set_other, get_or-set_same, inl, inr, length, ltb, max, refl, suc, sym, true, w64, zero, ℕ, ◌%◌, ◌&&◌, ◌*◌, ◌++◌, ◌+◌, ◌<◌, ◌^◌, ◌||◌, ◌∙◌, ◌∷◌, ◌≡◌, ◌≢◌, ◌≤◌}
use Rattle.std.proofs.Math.ListN.{set}
use Rattle.std.proofs.lemmas.Bool.{cases_eq, cases_lt, eq-eqb, eqb-true, le-ltb, lt-ltb, ne_eqb, true≢false}
use Rattle.std.proofs.lemmas.Nat.{or_comm}
use Rattle.std.proofs.lemmas.Nat.Bits.{bit_at-lt, bit_at-zero, bit_at_or, bit_at_set_other, bit_at_set_same, same_from_bits}
use Rattle.std.specs.Int.{bit_at}
use Rattle.std.specs.List.{list_all, list_any}
use Rattle.poly_tiling.specs.Puzzle.{View, has_item}
use Rattle.poly_tiling.specs.declared.item.Item.{Item}
use Rattle.poly_tiling.proofs.Contained.{at_in, in_contains, low_get}
use Rattle.poly_tiling.proofs.Lists.{all_append, all_from, all_in, same_truth}
use Rattle.poly_browse.specs.Gathering.{AreSmall, has_it}
use Rattle.poly_browse.specs.Lines.{in_mask, joined}
use Rattle.poly_browse.proofs.Rows.{or_false, or_true}
use Rattle.poly_browse.proofs.Worded.{any_small, none_small}

-- ---- bits

same_digit : (x y : ℕ) → x < 2 → y < 2 → eqb x 1 ≡ eqb y 1 → x ≡ y
same_digit zero zero a b e = refl
same_digit zero (suc zero) a b e = absurd (true≢false (sym e))
same_digit zero (suc (suc y)) a b e = absurd (omega arith)
same_digit (suc zero) zero a b e = absurd (true≢false e)
same_digit (suc zero) (suc zero) a b e = refl
same_digit (suc zero) (suc (suc y)) a b e = absurd (omega arith)
same_digit (suc (suc x)) y a b e = absurd (omega arith)

or_digit : (x y : ℕ) → x < 2 → y < 2 → eqb (max x y) 1 ≡ (eqb x 1 || eqb y 1)
or_digit zero zero a b = refl
or_digit zero (suc zero) a b = refl
or_digit zero (suc (suc y)) a b = absurd (omega arith)
or_digit (suc zero) zero a b = refl
or_digit (suc zero) (suc zero) a b = refl
or_digit (suc zero) (suc (suc y)) a b = absurd (omega arith)
or_digit (suc (suc x)) y a b = absurd (omega arith)

bit_either : (a b t : ℕ) → eqb (bit_at (bit_or a b) t) 1 ≡ (eqb (bit_at a t) 1 || eqb (bit_at b t) 1)
bit_either a b t = ap (λ x. eqb x 1) (bit_at_or a b t) ∙ or_digit (bit_at a t) (bit_at b t) (bit_at-lt a t) (bit_at-lt b t)

-- after a bit is set, it is 1 and all others are as before
bit_put : (w bit t : ℕ) → bit < 64 → eqb (bit_at (bit_or w (1 * 2 ^ bit % 2 ^ 64)) t) 1 ≡ (eqb (bit_at w t) 1 || eqb bit t)
bit_put w bit t low = elim (cases_eq t bit) [
  | inl e ↦
      ap (λ u. eqb (bit_at (bit_or w (1 * 2 ^ bit % 2 ^ 64)) u) 1) e ∙ eq-eqb _ _ (bit_at_set_same w64 w bit low)
      ∙ sym (ap (λ b. eqb (bit_at w t) 1 || b) (eq-eqb bit t (sym e)) ∙ or_true (eqb (bit_at w t) 1))
  | inr n ↦
      ap (λ y. eqb y 1) (bit_at_set_other w64 w bit low t n)
      ∙ sym (ap (λ b. eqb (bit_at w t) 1 || b) (ne_eqb bit t (λ e. n (sym e))) ∙ or_false (eqb (bit_at w t) 1))
]

or_assoc : (a b c : ℕ) → bit_or a (bit_or b c) ≡ bit_or (bit_or a b) c
or_assoc a b c = same_from_bits _ _ (λ i. omega (arith, bit_at_or a (bit_or b c) i, bit_at_or b c i, bit_at_or (bit_or a b) c i, bit_at_or a b i))

-- ---- masks together

pub joined_more : (masks T : List ℕ) (n : ℕ) → joined masks (T ++ n ∷ []) ≡ bit_or (joined masks T) (get_or masks n 0)
joined_more masks [] n = or_comm (get_or masks n 0) 0
joined_more masks (x ∷ T) n = ap (bit_or (get_or masks x 0)) (joined_more masks T n) ∙ or_assoc (get_or masks x 0) (joined masks T) (get_or masks n 0)

joined_bit : (masks T : List ℕ) (t : ℕ) → eqb (bit_at (joined masks T) t) 1 ≡ list_any (λ n. in_mask masks n t) T
joined_bit masks [] t = ap (λ x. eqb x 1) (bit_at-zero t)
joined_bit masks (n ∷ T) t = bit_either (get_or masks n 0) (joined masks T) t ∙ ap (λ b. in_mask masks n t || b) (joined_bit masks T t)

-- ---- one bit more in one mask

mask_set : (masks : List ℕ) (at bit n t : ℕ) → bit < 64 → at < length masks →
    in_mask (set masks at (bit_or (get_or masks at 0) (1 * 2 ^ bit % 2 ^ 64))) n t ≡ (in_mask masks n t || (eqb at n && eqb bit t))
mask_set masks at bit n t low here =
    let w = bit_or (get_or masks at 0) (1 * 2 ^ bit % 2 ^ 64) in
    elim (cases_eq n at) [
      | inl e ↦
          let same : get_or (set masks at w) n 0 ≡ w = ap (λ m. get_or (set masks at w) m 0) e ∙ rw get_or-set_same refl in
          ap (λ x. eqb (bit_at x t) 1) same ∙ bit_put (get_or masks at 0) bit t low ∙ ap (λ m. in_mask masks m t || eqb bit t) (sym e)
          ∙ ap (λ b. in_mask masks n t || (b && eqb bit t)) (sym (eq-eqb at n (sym e)))
      | inr d ↦
          let other : get_or (set masks at w) n 0 ≡ get_or masks n 0 = rw get_or-set_other refl in
          ap (λ x. eqb (bit_at x t) 1) other ∙ sym (ap (λ b. in_mask masks n t || (b && eqb bit t)) (ne_eqb at n (λ e. d (sym e))) ∙ or_false (in_mask masks n t))
    ]

mark_up : (a f i e : Bool) → ((a || (f && e)) || (i && e)) ≡ (a || ((f || (true && i)) && e))
mark_up true f i e = refl
mark_up false true true true = refl
mark_up false true true false = refl
mark_up false true false true = refl
mark_up false true false false = refl
mark_up false false i e = refl

mark_same : (a f i e : Bool) → (a || (f && e)) ≡ (a || ((f || (false && i)) && e))
mark_same true f i e = refl
mark_same false true i e = refl
mark_same false false i e = refl

-- the next number's mask gets the bit if the number's flag is raised, and stays as it is otherwise
pub marked_up : (masks : List ℕ) (at bit n t : ℕ) (a f f' : Bool) → bit < 64 → at < length masks → f' ≡ (f || (true && eqb at n)) → in_mask masks n t ≡ (a || (f && eqb bit t)) →
    in_mask (set masks at (bit_or (get_or masks at 0) (1 * 2 ^ bit % 2 ^ 64))) n t ≡ (a || (f' && eqb bit t))
marked_up masks at bit n t a f f' low here more so =
    mask_set masks at bit n t low here ∙ ap (λ b. b || (eqb at n && eqb bit t)) so ∙ mark_up a f (eqb at n) (eqb bit t) ∙ ap (λ b. a || (b && eqb bit t)) (sym more)

pub marked_same : (masks : List ℕ) (at bit n t : ℕ) (a f f' : Bool) → f' ≡ (f || (false && eqb at n)) → in_mask masks n t ≡ (a || (f && eqb bit t)) → in_mask masks n t ≡ (a || (f' && eqb bit t))
marked_same masks at bit n t a f f' more so = so ∙ mark_same a f (eqb at n) (eqb bit t) ∙ ap (λ b. a || (b && eqb bit t)) (sym more)

pub length_set : (xs : List ℕ) (k x : ℕ) → length (set xs k x) ≡ length xs
length_set [] k x = refl
length_set (y ∷ xs) zero x = refl
length_set (y ∷ xs) (suc k) x = ap suc (length_set xs k x)

-- ---- masks of items

-- The first `at` items are done: each has its bit in the masks of exactly those numbers that have the item, and in `wanted`.
-- All later bits are 0.
pub record IsPacked (v : View) (items : List Item) (at : ℕ) (masks : List ℕ) (wanted : ℕ) : Type 0 where
  pub below : (n t : ℕ) (d : Item) → n < 2 ^ 32 → t < at → in_mask masks n t ≡ has_item v n (get_or items t d)
  pub above : (n t : ℕ) → at ≤ t → in_mask masks n t ≡ false
  pub bits : (t : ℕ) → eqb (bit_at wanted t) 1 ≡ ltb t at

pub packed_none : (v : View) (items : List Item) (masks : List ℕ) → masks ≡ [] → IsPacked v items 0 masks 0
packed_none v items masks is = record {
  below = λ n t d small l. absurd (omega (arith, l));
  above = λ n t l. ap (λ m. in_mask m n t) is ∙ ap (λ x. eqb x 1) (bit_at-zero t);
  bits = λ t. ap (λ x. eqb x 1) (bit_at-zero t) ∙ sym (le-ltb t 0 (omega arith));
}

less_more : (t at : ℕ) → (ltb t at || eqb at t) ≡ ltb t (at + 1)
less_more t at = elim (cases_lt t at) [
  | inl low ↦ ap (λ b. b || eqb at t) (lt-ltb t at low) ∙ sym (lt-ltb t (at + 1) (omega (arith, low)))
  | inr high ↦ elim (cases_eq t at) [
    | inl e ↦ ap (λ b. ltb t at || b) (eq-eqb at t (sym e)) ∙ or_true (ltb t at) ∙ sym (lt-ltb t (at + 1) (omega (arith, e)))
    | inr n ↦ ap (λ b. b || eqb at t) (le-ltb t at high) ∙ ne_eqb at t (λ e. n (sym e)) ∙ sym (le-ltb t (at + 1) (omega (arith, high, n)))
  ]
]

and_true : (b : Bool) → (b && true) ≡ b
and_true true = refl
and_true false = refl

and_false : (b : Bool) → (b && false) ≡ false
and_false true = refl
and_false false = refl

pub packed_more : (v : View) (items : List Item) (i : Item) (at : ℕ) (old new : List ℕ) (wanted : ℕ) (flag : ℕ → Bool) → at < 64 → ((d : Item) → get_or items at d ≡ i) → ((n : ℕ) → n < 2 ^ 32 → flag n ≡ has_item v n i) →
    ((n t : ℕ) → in_mask new n t ≡ (in_mask old n t || (flag n && eqb at t))) → IsPacked v items at old wanted → IsPacked v items (at + 1) new (bit_or wanted (1 * 2 ^ at % 2 ^ 64))
packed_more v items i at old new wanted flag low here flags marks so = record {
  below = λ n t d small l. elim (cases_eq t at) [
    | inl e ↦
        marks n t ∙ ap (λ b. b || (flag n && eqb at t)) (so.above n t (omega (arith, e))) ∙ ap (λ b. flag n && b) (eq-eqb at t (sym e)) ∙ and_true (flag n) ∙ flags n small
        ∙ sym (ap (λ k. has_item v n (get_or items k d)) e ∙ ap (has_item v n) (here d))
    | inr other ↦ marks n t ∙ ap (λ b. in_mask old n t || (flag n && b)) (ne_eqb at t (λ e. other (sym e))) ∙ ap (λ b. in_mask old n t || b) (and_false (flag n)) ∙ or_false (in_mask old n t) ∙ so.below n t d small (omega (arith, l, other))
  ];
  above = λ n t l. marks n t ∙ ap (λ b. b || (flag n && eqb at t)) (so.above n t (omega (arith, l))) ∙ ap (λ b. flag n && b) (ne_eqb at t (λ e. absurd (omega (arith, l, e)))) ∙ and_false (flag n);
  bits = λ t. bit_put wanted at t low ∙ ap (λ b. b || eqb at t) (so.bits t) ∙ less_more t at;
}

-- once all items are done, the masks of a tiling's numbers together equal `wanted` exactly if the tiling covers all items
pub packed_all : (v : View) (items : List Item) (masks : List ℕ) (wanted : ℕ) (T : List ℕ) → AreSmall T → IsPacked v items (length items) masks wanted → eqb (joined masks T) wanted ≡ list_all (λ i. has_it v T i) items
packed_all v items masks wanted T small so = same_truth (eqb (joined masks T) wanted) (list_all (λ i. has_it v T i) items) all back
  where
    all : eqb (joined masks T) wanted ≡ true → list_all (λ i. has_it v T i) items ≡ true
    all h = all_from (λ i. has_it v T i) items (λ i w.
        let c = in_contains items i w in
        any_small (λ n. has_item v n i) (λ n. in_mask masks n c.0) T small (λ n l. sym (so.below n c.0 i l c.1 ∙ ap (has_item v n) c.2))
        ∙ sym (joined_bit masks T c.0) ∙ ap (λ x. eqb (bit_at x c.0) 1) (eqb-true (joined masks T) wanted h) ∙ so.bits c.0 ∙ lt-ltb c.0 (length items) c.1)

    one : list_all (λ i. has_it v T i) items ≡ true → (t : ℕ) → eqb (bit_at (joined masks T) t) 1 ≡ eqb (bit_at wanted t) 1
    one h t = elim (cases_lt t (length items)) [
      | inl low ↦
          let d = (low_get items t low).0 in
          joined_bit masks T t ∙ any_small (λ n. in_mask masks n t) (λ n. has_item v n (get_or items t d)) T small (λ n l. so.below n t d l low)
          ∙ all_in (λ i. has_it v T i) items h (get_or items t d) (at_in items t d low) ∙ sym (so.bits t ∙ lt-ltb t (length items) low)
      | inr high ↦ joined_bit masks T t ∙ none_small (λ n. in_mask masks n t) T small (λ n l. so.above n t high) ∙ sym (so.bits t ∙ le-ltb t (length items) high)
    ]

    back : list_all (λ i. has_it v T i) items ≡ true → eqb (joined masks T) wanted ≡ true
    back h = eq-eqb (joined masks T) wanted (same_from_bits (joined masks T) wanted (λ t. same_digit _ _ (bit_at-lt (joined masks T) t) (bit_at-lt wanted t) (one h t)))

-- ---- one group of items after another

and_turn : (a h r : Bool) → ((a && (h && true)) && r) ≡ (a && (h && r))
and_turn true true r = refl
and_turn true false r = refl
and_turn false h r = refl

pub some_more : {M : Type 0} (f : M → Bool) (g : Item → Bool) (old new : List M) (m : M) (some left rest items : List Item) → new ≡ old ++ m ∷ [] → f m ≡ list_all g some → left ≡ some ++ rest →
    (list_all f old && list_all g left) ≡ list_all g items → (list_all f new && list_all g rest) ≡ list_all g items
some_more f g old new m some left rest items pushed one cut so =
    ap (λ l. list_all f l && list_all g rest) pushed ∙ ap (λ b. b && list_all g rest) (all_append f old (m ∷ [])) ∙ and_turn (list_all f old) (f m) (list_all g rest)
    ∙ ap (λ b. list_all f old && (b && list_all g rest)) one ∙ ap (λ b. list_all f old && b) (sym (ap (list_all g) cut ∙ all_append g some rest)) ∙ so

pub some_done : (a : Bool) (g : Item → Bool) (rest items : List Item) → length rest ≡ 0 → (a && list_all g rest) ≡ list_all g items → a ≡ list_all g items
some_done a g [] items none so = sym (and_true a) ∙ so
some_done a g (i ∷ rest) items none so = absurd (omega (arith, none))
