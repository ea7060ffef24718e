-- Items by their indices.
use Rattle.std.proofs.Common.{◌≡◌, ℕ, zero, suc, ◌+◌, ◌<◌, ◌≤◌, Bool, true, false, ◌||◌, eqb, List, [], ◌∷◌, ◌++◌, inl, inr, refl, sym, ap, subst, ◌∙◌, arith, map, length, get_or, take, ltb, ◌-◌, ◌*◌, ◌^◌, get_or-set_other, get_or-set_same}
use Rattle.std.proofs.Math.ListN.{set}
use Rattle.std.proofs.Math.Nat.{mul-le-mul_left}
use Rattle.std.specs.List.{list_any, list_all}
use Rattle.std.specs.Ordering.{is_lt}
use Rattle.std.specs.Cmp.{tied_itself}
use Rattle.std.specs.Cmp.Lexicographic.{nat_list_cmp_total}
use Rattle.std.proofs.lemmas.Bool.{eqb-true, eq-eqb, ne_eqb, and_parts, and_from, both_ways, false_from_ne_true, lt-ltb, ltb-true, cases_Bool, cases_eq}
use Rattle.std.proofs.lemmas.List.{take_more, length-append, map-append, get_or_read}
use Rattle.poly_grid.specs.Spot.{Spot}
use Rattle.std.specs.declared.cmp.Ordering.TheVariants.{Equal, Less}
use Rattle.poly_shape.specs.Order.{IsAscending, spot_cmp, spot_total}
use Rattle.poly_tiling.specs.declared.bound.Bound.{Bound}
use Rattle.poly_tiling.specs.declared.item.Item.{Item}
use Rattle.poly_tiling.specs.declared.item.Item.TheVariants.{Cell, Piece}
use Rattle.poly_tiling.specs.Lists.{one}
use Rattle.poly_tiling.specs.Names.{item_cmp, items_ascend}
use Rattle.poly_tiling.specs.Puzzle.{same_item}
use Rattle.poly_tiling.proofs.Lists.{In, all_append, all_in, any_append, any_in, map_in, same_truth, tally_append}
use Rattle.poly_tiling.proofs.Tilings.{same_item_is, same_item_self}
use Rattle.poly_frame.specs.FrameItems.{Noted, item_at, no_bound, times}

never_below : (i : Item) → is_lt (item_cmp i i) ≡ false
never_below (Cell c) = ap is_lt (tied_itself spot_total c)
never_below (Piece n) = ap is_lt (tied_itself nat_list_cmp_total n)

pub bound_in_list : (bs : List Bound) (b : ℕ) → b < length bs → In (get_or bs b no_bound) bs
bound_in_list [] b h = absurd (omega arith)
bound_in_list (x ∷ bs) zero h = inl refl
bound_in_list (x ∷ bs) (suc b) h = inr (bound_in_list bs b (omega arith))

head_apart : (x : Bound) (bs : List Bound) (b : ℕ) → items_ascend (x ∷ bs) ≡ true → b < length bs → item_at bs b ≡ x.item → ⊥
head_apart x bs b up h e =
    both_ways (is_lt (item_cmp x.item x.item)) (never_below x.item)
    (subst (λ i. is_lt (item_cmp x.item i) ≡ true) e (all_in (λ c. is_lt (item_cmp x.item c.item)) bs (and_parts _ (items_ascend bs) up).0 (get_or bs b no_bound) (bound_in_list bs b h)))

-- if the items ascend, two indices with the same item are equal
pub item_once : (bs : List Bound) (a b : ℕ) → items_ascend bs ≡ true → a < length bs → b < length bs → item_at bs a ≡ item_at bs b → a ≡ b
item_once [] a b up h k e = absurd (omega arith)
item_once (x ∷ bs) zero zero up h k e = refl
item_once (x ∷ bs) zero (suc b) up h k e = absurd (head_apart x bs b up (omega arith) (sym e))
item_once (x ∷ bs) (suc a) zero up h k e = absurd (head_apart x bs a up (omega arith) e)
item_once (x ∷ bs) (suc a) (suc b) up h k e = ap suc (item_once bs a b (and_parts (list_all (λ c. is_lt (item_cmp x.item c.item)) bs) (items_ascend bs) up).1 (omega arith) (omega arith) e)

or_false : (b : Bool) → (b || false) ≡ b
or_false true = refl
or_false false = refl

-- if the items ascend and item `i` is at index `a`, the indices of `i` are `a` alone
pub noted_one : (bs : List Bound) (i : Item) (a : ℕ) → items_ascend bs ≡ true → (a < length bs) × (same_item (item_at bs a) i ≡ true) → Noted bs (i ∷ []) (a ∷ [])
noted_one bs i a up w = record {
  few = omega arith;
  low = and_from _ _ (lt-ltb a (length bs) w.0) refl;
  once = λ b h.
      let e : eqb a b ≡ same_item i (item_at bs b) = same_truth _ _
      (λ x. subst (λ j. same_item j (item_at bs b) ≡ true) (same_item_is _ _ w.1) (subst (λ n. same_item (item_at bs a) (item_at bs n) ≡ true) (eqb-true a b x) (same_item_self (item_at bs a))))
      (λ x. eq-eqb a b (item_once bs a b up w.0 h (same_item_is _ _ w.1 ∙ same_item_is _ _ x))) in
      omega (arith, ap one (e ∙ sym (or_false (same_item i (item_at bs b)))));
}

-- the indices of one item that has no index: none
pub noted_none : (bs : List Bound) (i : Item) → ((b : ℕ) → b < length bs → same_item (item_at bs b) i ≡ false) → Noted bs (i ∷ []) []
noted_none bs i n = record {
  few = omega arith;
  low = refl;
  once = λ b h. sym (ap one (or_false (same_item i (item_at bs b)) ∙ false_from_ne_true _ (λ x. both_ways (same_item (item_at bs b) i) (n b h) (subst (λ j. same_item j i ≡ true) (same_item_is _ _ x) (same_item_self i)))));
}

one_or : (a b : Bool) → (a ≡ true → b ≡ true → ⊥) → one a + one b ≡ one (a || b)
one_or true true n = absurd (n refl refl)
one_or true false n = refl
one_or false b n = omega arith

pub noted_nothing : (bs : List Bound) → Noted bs [] []
noted_nothing bs = record { few = omega arith; low = refl; once = λ b h. refl }

-- if two lists share no item, their indices joined are those of the joined lists
pub noted_join : (bs : List Bound) (is js : List Item) (xs ys : List ℕ) → Noted bs is xs → Noted bs js ys →
    ((b : ℕ) → b < length bs → list_any (λ i. same_item i (item_at bs b)) is ≡ true → list_any (λ i. same_item i (item_at bs b)) js ≡ true → ⊥) → Noted bs (is ++ js) (xs ++ ys)
noted_join bs is js xs ys p q apart = record {
  few = omega (arith, p.few, q.few, length-append xs ys, length-append is js);
  low = all_append (λ b. ltb b (length bs)) xs ys ∙ and_from _ _ p.low q.low;
  once = λ b h. tally_append (λ x. eqb x b) xs ys ∙ omega (arith, p.once b h, q.once b h, one_or _ _ (apart b h)) ∙ sym (ap one (any_append (λ i. same_item i (item_at bs b)) is js));
}

-- how often an index occurs if one more entry is counted
pub times_more : (xs : List ℕ) (k b : ℕ) → k < length xs → times (take (k + 1) xs) b ≡ times (take k xs) b + one (eqb (get_or xs k 0) b)
times_more xs k b h = ap (λ ys. times ys b) (take_more xs k 0 h) ∙ tally_append (λ x. eqb x b) (take k xs) (get_or xs k 0 ∷ []) ∙ omega arith

pub low_at : (n : ℕ) (xs : List ℕ) (k : ℕ) → list_all (λ b. ltb b n) xs ≡ true → k < length xs → get_or xs k 0 < n
low_at n [] k l h = absurd (omega arith)
low_at n (x ∷ xs) zero l h = ltb-true x n (and_parts (ltb x n) (list_all (λ b. ltb b n) xs) l).0
low_at n (x ∷ xs) (suc k) l h = low_at n xs k (and_parts (ltb x n) (list_all (λ b. ltb b n) xs) l).1 (omega arith)

-- the row of an index that is low enough is within the rows
pub row_low : (xs : List ℕ) (n w k m : ℕ) → list_all (λ b. ltb b n) xs ≡ true → m ≡ w * n → k < length xs → w * (get_or xs k 0 + 1) ≤ m
row_low xs n w k m low e h =
    let a = low_at n xs k low h in
    let b = mul-le-mul_left {m = get_or xs k 0 + 1} {n = n} w (omega (arith, a)) in
    omega (arith, b, e)

pub times_le : (xs : List ℕ) (k b : ℕ) → times (take k xs) b ≤ k
times_le xs zero b = omega arith
times_le [] (suc k) b = omega arith
times_le (x ∷ xs) (suc k) b = let r = times_le xs k b in elim (cases_Bool (eqb x b)) [ inl e ↦ omega (arith, ap one e) | inr e ↦ omega (arith, ap one e) ]

pub times_front : (xs : List ℕ) (k b : ℕ) → times (take k xs) b ≤ times xs b
times_front xs zero b = omega arith
times_front [] (suc k) b = omega arith
times_front (x ∷ xs) (suc k) b = omega (arith, times_front xs k b)

changed_same : (xs : List ℕ) (a x b : ℕ) → a < length xs → a ≡ b → get_or (set xs a x) b 0 ≡ x
changed_same xs a x b h e = ap (λ m. get_or (set xs a x) m 0) (sym e) ∙ rw get_or-set_same refl

changed_other : (xs : List ℕ) (a x b : ℕ) → (b ≡ a → ⊥) → get_or (set xs a x) b 0 ≡ get_or xs b 0
changed_other xs a x b n = rw get_or-set_other refl

-- raising the count at index a by one changes no other count
pub change_at : (xs : List ℕ) (a x b : ℕ) → a < length xs → get_or (set xs a (get_or xs a 0 + 1)) b 0 ≡ get_or xs b 0 + one (eqb a b)
change_at xs a x b h = elim (cases_eq a b) [
  | inl e ↦ changed_same xs a (get_or xs a 0 + 1) b h e ∙ omega (arith, ap (λ m. get_or xs m 0) e, ap one (eq-eqb a b e))
  | inr n ↦ changed_other xs a (get_or xs a 0 + 1) b (λ e. n (sym e)) ∙ omega (arith, ap one (ne_eqb a b n))
]

pub change_back : (xs : List ℕ) (a x b : ℕ) → a < length xs → 1 ≤ get_or xs a 0 → get_or (set xs a (get_or xs a 0 - 1)) b 0 + one (eqb a b) ≡ get_or xs b 0
change_back xs a x b h l = elim (cases_eq a b) [
  | inl e ↦ omega (arith, changed_same xs a (get_or xs a 0 - 1) b h e, ap (λ m. get_or xs m 0) e, ap one (eq-eqb a b e))
  | inr n ↦ omega (arith, changed_other xs a (get_or xs a 0 - 1) b (λ e. n (sym e)), ap one (ne_eqb a b n))
]

module _ (old have xs : List ℕ) (k : ℕ) (h : k < length xs) (same : length have ≡ length old) (low : list_all (λ b. ltb b (length old)) xs ≡ true) where
  pub at_low : get_or xs k 0 < length old
  at_low = low_at (length old) xs k low h

  pub raise_fits : ((b : ℕ) → b < length old → get_or old b 0 + length xs < 2 ^ 64) → ((b : ℕ) → b < length old → get_or have b 0 ≡ get_or old b 0 + times (take k xs) b) → get_or have (get_or xs k 0) 0 + 1 < 2 ^ 64
  raise_fits small inv = omega (arith, inv (get_or xs k 0) at_low, small (get_or xs k 0) at_low, times_le xs k (get_or xs k 0))

  pub raise_step : ((b : ℕ) → b < length old → get_or have b 0 ≡ get_or old b 0 + times (take k xs) b) →
      (b : ℕ) → b < length old → get_or (set have (get_or xs k 0) (get_or have (get_or xs k 0) 0 + 1)) b 0 ≡ get_or old b 0 + times (take (k + 1) xs) b
  raise_step inv b l = omega (arith, change_at have (get_or xs k 0) 0 b (omega (arith, at_low, same)), inv b l, times_more xs k b h)

  pub lowered_fits : ((b : ℕ) → b < length old → times xs b ≤ get_or old b 0) → ((b : ℕ) → b < length old → get_or have b 0 + times (take k xs) b ≡ get_or old b 0) → 1 ≤ get_or have (get_or xs k 0) 0
  lowered_fits enough inv = omega (arith, inv (get_or xs k 0) at_low, enough (get_or xs k 0) at_low, times_front xs (k + 1) (get_or xs k 0), times_more xs k (get_or xs k 0) h, ap one (eq-eqb (get_or xs k 0) (get_or xs k 0) refl))

  pub lowered_step : 1 ≤ get_or have (get_or xs k 0) 0 → ((b : ℕ) → b < length old → get_or have b 0 + times (take k xs) b ≡ get_or old b 0) →
      (b : ℕ) → b < length old → get_or (set have (get_or xs k 0) (get_or have (get_or xs k 0) 0 - 1)) b 0 + times (take (k + 1) xs) b ≡ get_or old b 0
  lowered_step some inv b l = omega (arith, change_back have (get_or xs k 0) 0 b (omega (arith, at_low, same)) some, inv b l, times_more xs k b h)

in_take : {X : Type 0} (xs : List X) (k : ℕ) (y d : X) → In y (take k xs) → (i : ℕ) × (i < k) × (get_or xs i d ≡ y)
in_take xs zero y d i = absurd i
in_take [] (suc k) y d i = absurd i
in_take (x ∷ xs) (suc k) y d (inl e) = (zero, omega arith, e)
in_take (x ∷ xs) (suc k) y d (inr i) = let r = in_take xs k y d i in let l : suc r.0 < suc k = omega (arith, r.1) in (suc r.0, l, r.2)

cell_new : (cells : List Spot) (k : ℕ) (d : Spot) → IsAscending spot_cmp cells → k < length cells → In (get_or cells k d) (take k cells) → ⊥
cell_new cells k d up h i =
    let w = in_take cells k (get_or cells k d) d i in
    let a : spot_cmp (get_or cells w.0 d) (get_or cells k d) ≡ Less = up w.0 k d w.1 h in
    let b : spot_cmp (get_or cells k d) (get_or cells k d) ≡ Equal = tied_itself spot_total (get_or cells k d) in
    let c : spot_cmp (get_or cells k d) (get_or cells k d) ≡ Less = ap (λ s. spot_cmp s (get_or cells k d)) (sym w.2) ∙ a in
    cc

cell_inside : (c d : Spot) → Cell c ≡ Cell d → c ≡ d
cell_inside c d e = cc

-- the indices of the first k cells and of the next cell are those of the first k + 1
pub noted_cell : (bs : List Bound) (cells : List Spot) (k : ℕ) (x : Spot) (ps qs : List ℕ) → IsAscending spot_cmp cells → k < length cells → x ≡ get_or cells k x →
    Noted bs (map (λ c. Cell c) (take k cells)) ps → Noted bs (Cell x ∷ []) qs → Noted bs (map (λ c. Cell c) (take (k + 1) cells)) (ps ++ qs)
noted_cell bs cells k x ps qs up h e p q =
    subst (λ is. Noted bs is (ps ++ qs)) (sym (ap (λ cs. map (λ c. Cell c) cs) (take_more cells k x h ∙ ap (λ c. take k cells ++ c ∷ []) (sym e)) ∙ map-append (λ c. Cell c) (take k cells) (x ∷ [])))
    (noted_join bs (map (λ c. Cell c) (take k cells)) (Cell x ∷ []) ps qs p q (λ b l y z.
    let s = any_in (λ i. same_item i (item_at bs b)) (map (λ c. Cell c) (take k cells)) y in
    let t = any_in (λ i. same_item i (item_at bs b)) (Cell x ∷ []) z in
    let m = map_in (λ c. Cell c) (take k cells) s.0 s.1 in
    let same : m.0 ≡ x = cell_inside m.0 x (m.2 ∙ same_item_is _ _ s.2 ∙ sym (same_item_is _ _ t.2) ∙ sym (only_one (Cell x) t.0 t.1)) in
    cell_new cells k x up h (subst (λ c. In c (take k cells)) (same ∙ e) m.1)))
  where
    only_one : (i j : Item) → In j (i ∷ []) → i ≡ j
    only_one i j (inl e) = e
    only_one i j (inr n) = absurd n

-- the indices of a piece and of some cells are those of the placement with this piece and these cells
pub noted_piece : (bs : List Bound) (n : List ℕ) (cells : List Spot) (ps qs : List ℕ) → Noted bs (Piece n ∷ []) ps → Noted bs (map (λ c. Cell c) cells) qs → Noted bs (Piece n ∷ map (λ c. Cell c) cells) (ps ++ qs)
noted_piece bs n cells ps qs p q = noted_join bs (Piece n ∷ []) (map (λ c. Cell c) cells) ps qs p q (λ b l y z.
    let s = any_in (λ i. same_item i (item_at bs b)) (map (λ c. Cell c) cells) z in
    let m = map_in (λ c. Cell c) cells s.0 s.1 in
    let t = any_in (λ i. same_item i (item_at bs b)) (Piece n ∷ []) y in
    apart m.0 (m.2 ∙ same_item_is _ _ s.2 ∙ sym (same_item_is _ _ t.2) ∙ sym (only_one t.0 t.1)))
  where
    only_one : (j : Item) → In j (Piece n ∷ []) → Piece n ≡ j
    only_one j (inl e) = e
    only_one j (inr x) = absurd x

    apart : (c : Spot) → Cell c ≡ Piece n → ⊥
    apart c e = cc

-- a bound that was read at an index of the list does not depend on the default
pub read_bound : (bs : List Bound) (b : ℕ) (x : Bound) → b < length bs → x ≡ get_or bs b x → x ≡ get_or bs b no_bound
read_bound bs b x h e = get_or_read bs b x h e no_bound
