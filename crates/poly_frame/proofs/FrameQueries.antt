-- What the rows of a frame answer.
use Rattle.std.proofs.Common.{◌≡◌, ℕ, zero, suc, ◌+◌, ◌-◌, ◌*◌, ◌<◌, ◌≤◌, min, MatchOption, None, Option, Some, ◌||◌, Bool, true, false, cond, not, ◌&&◌, nat_lt, List, [], ◌∷◌, ◌++◌, inl, inr, refl, sym, ap, subst, ◌∙◌, arith, length, get_or, take, drop}
use Rattle.std.specs.List.{filter, list_any, list_all}
use Rattle.std.proofs.Math.Nat.{mul-le-mul_left}
use Rattle.std.proofs.lemmas.List.{length-drop, take_more, take_all, take_rest, take-append-drop}
use Rattle.std.proofs.lemmas.Bool.{and_from, and_parts, both_ways, cases_lt, false_from_ne_true, le-ltb, not_from_false, not-true, or_cases}
use Rattle.poly_tiling.specs.declared.bound.Bound.{Bound}
use Rattle.poly_tiling.specs.declared.item.Item.{Item}
use Rattle.poly_tiling.specs.Lists.{distinct, mem}
use Rattle.poly_tiling.specs.Puzzle.{View, count, has_item, same_item}
use Rattle.poly_tiling.proofs.Lists.{In, all_from, all_in, in_mem, mem_in, same_truth}
use Rattle.poly_tiling.proofs.Named.{listed_item}
use Rattle.poly_tiling.proofs.Orders.{live_once}
use Rattle.poly_tiling.proofs.Tilings.{same_item_self}
use Rattle.poly_atom.specs.declared.atom.Atom.{Atom}
use Rattle.poly_atom.specs.declared.atom.Atom.TheVariants.{AtLeast, AtMost, Has, Lacks}
use Rattle.poly_atom.specs.Hopeless.{base}
use Rattle.poly_frame.specs.Open.{least_at, open_in}
use Rattle.poly_frame.specs.Plain.{of_asked}
use Rattle.poly_frame.specs.Bits.{NoneIn, has_bit, in_both}
use Rattle.poly_frame.specs.FrameItems.{item_of, no_bound}
use Rattle.poly_frame.specs.FrameSteps.{Kept}
use Rattle.poly_frame.specs.declared.frame.matrix.Matrix.{Matrix}
use Rattle.poly_frame.specs.declared.frame.steps.Mark.{Mark}
use Rattle.poly_frame.specs.declared.frame.table.Table.{Table}
use Rattle.poly_frame.proofs.Due.{none_due}
use Rattle.poly_frame.proofs.Opens.{open_before}
use Rattle.poly_frame.proofs.Walks.{distinct_filter, mem_filter}
use Rattle.poly_frame.proofs.Words.{drop_bits}
use Rattle.poly_frame.proofs.FramePicks.{column_of}
use Rattle.poly_frame.proofs.FrameSteps.{index_in, listed_at, top_have, top_level, top_opened}

all_bounds : (bs : List Bound) (f : Bound → Bool) → ((b : ℕ) → b < length bs → f (get_or bs b no_bound) ≡ true) → list_all f bs ≡ true
all_bounds [] f h = refl
all_bounds (x ∷ bs) f h = and_from _ _ (h zero (omega arith)) (all_bounds bs f (λ b l. h (suc b) (omega arith)))

-- if no item of the view is due, and none of the items outside the view that an atom asks for is due, then no item that an
-- atom asks for is due
none_elsewhere : (v : View) (A : List Atom) (T : List ℕ) (X : List Atom) → ((b : ℕ) → b < length v.bounds → nat_lt (count v T (item_of v b)) (least_at v A (item_of v b)) ≡ false) →
    list_all (of_asked (λ i. list_any (λ b. same_item b.item i) v.bounds || not (nat_lt (count v T i) (least_at v A i)))) X ≡ true → list_all (of_asked (λ i. not (nat_lt (count v T i) (least_at v A i)))) X ≡ true
none_elsewhere v A T [] n h = refl
none_elsewhere v A T (Has p ∷ X) n h = none_elsewhere v A T X n h
none_elsewhere v A T (Lacks p ∷ X) n h = none_elsewhere v A T X n h
none_elsewhere v A T (AtMost i k ∷ X) n h = none_elsewhere v A T X n h
none_elsewhere v A T (AtLeast i k ∷ X) n h =
    let here = list_any (λ b. same_item b.item i) v.bounds in
    let free = not (nat_lt (count v T i) (least_at v A i)) in
    let hs = and_parts (here || free) (list_all (of_asked (λ j. list_any (λ b. same_item b.item j) v.bounds || not (nat_lt (count v T j) (least_at v A j)))) X) h in
    let yes : free ≡ true = elim (or_cases here free hs.0) [
      | inl y ↦ let w = column_of v.bounds i y in not_from_false _ (subst (λ j. nat_lt (count v T j) (least_at v A j) ≡ false) w.2 (n w.0 w.1))
      | inr e ↦ e
    ] in
    and_from free (list_all (of_asked (λ j. not (nat_lt (count v T j) (least_at v A j)))) X) yes (none_elsewhere v A T X n hs.1)

pub none_asked : (v : View) (A : List Atom) (T : List ℕ) → T ≡ base v A → list_all (of_asked (λ i. list_any (λ b. same_item b.item i) v.bounds || not (nat_lt (count v T i) (least_at v A i)))) A ≡ true →
    ((b : ℕ) → b < length v.bounds → nat_lt (count v (base v A) (item_of v b)) (least_at v A (item_of v b)) ≡ false) → (i : Item) → nat_lt (count v (base v A) i) (least_at v A i) ≡ false
none_asked v A T e h n i =
    let h2 = subst (λ (xs : List ℕ). list_all (of_asked (λ i. list_any (λ b. same_item b.item i) v.bounds || not (nat_lt (count v xs i) (least_at v A i)))) A ≡ true) e h in
    none_due v A (base v A) (all_bounds v.bounds (λ b. not (nat_lt (count v (base v A) b.item) (least_at v A b.item))) (λ b l. not_from_false _ (n b l))) (none_elsewhere v A (base v A) A n h2) i

-- `next_due` need only look at the items of the view, if no other item is due when none of these is
pub all_due : (v : View) (A : List Atom) (o : Option Item) → MatchOption o ((b : ℕ) → b < length v.bounds → nat_lt (count v (base v A) (item_of v b)) (least_at v A (item_of v b)) ≡ false) (λ i. nat_lt (count v (base v A) i) (least_at v A i) ≡ true) →
    (((b : ℕ) → b < length v.bounds → nat_lt (count v (base v A) (item_of v b)) (least_at v A (item_of v b)) ≡ false) → (i : Item) → nat_lt (count v (base v A) i) (least_at v A i) ≡ false) →
    MatchOption o ((i : Item) → nat_lt (count v (base v A) i) (least_at v A i) ≡ false) (λ i. nat_lt (count v (base v A) i) (least_at v A i) ≡ true)
all_due v A None h f = f h
all_due v A (Some i) h f = h

due_atoms : (v : View) (f : Item → Bool) (A : List Atom) → list_all (of_asked (λ i. list_any (λ b. same_item b.item i) v.bounds)) A ≡ true → ((i : Item) → ((b : ℕ) × (b < length v.bounds) × (item_of v b ≡ i)) → f i ≡ true) → list_all (of_asked f) A ≡ true
due_atoms v f [] h g = refl
due_atoms v f (Has p ∷ A) h g = due_atoms v f A h g
due_atoms v f (Lacks p ∷ A) h g = due_atoms v f A h g
due_atoms v f (AtLeast i n ∷ A) h g = let hs = and_parts (list_any (λ b. same_item b.item i) v.bounds) (list_all (of_asked (λ i. list_any (λ b. same_item b.item i) v.bounds)) A) h in and_from (f i) (list_all (of_asked f) A) (g i (column_of v.bounds i hs.0)) (due_atoms v f A hs.1 g)
due_atoms v f (AtMost i n ∷ A) h g = due_atoms v f A h g

filter_append : (f : ℕ → Bool) (xs ys : List ℕ) → filter f (xs ++ ys) ≡ filter f xs ++ filter f ys
filter_append f [] ys = refl
filter_append f (x ∷ xs) ys = elim (f x) as (λ b. cond b (x ∷ filter f (xs ++ ys)) (filter f (xs ++ ys)) ≡ cond b (x ∷ filter f xs) (filter f xs) ++ filter f ys) [ true ↦ ap (λ zs. x ∷ zs) (filter_append f xs ys) | false ↦ filter_append f xs ys ]

nothing_more : (xs : List ℕ) → xs ++ [] ≡ xs
nothing_more [] = refl
nothing_more (x ∷ xs) = ap (λ ys. x ∷ ys) (nothing_more xs)

pub filter_yes : (f : ℕ → Bool) (xs : List ℕ) (k : ℕ) → k < length xs → f (get_or xs k 0) ≡ true → filter f (take (k + 1) xs) ≡ filter f (take k xs) ++ get_or xs k 0 ∷ []
filter_yes f xs k h y = ap (λ ys. filter f ys) (take_more xs k 0 h) ∙ filter_append f (take k xs) (get_or xs k 0 ∷ []) ∙ ap (λ b. filter f (take k xs) ++ cond b (get_or xs k 0 ∷ []) []) y

pub filter_no : (f : ℕ → Bool) (xs : List ℕ) (k : ℕ) → k < length xs → f (get_or xs k 0) ≡ false → filter f (take (k + 1) xs) ≡ filter f (take k xs)
filter_no f xs k h n = ap (λ ys. filter f ys) (take_more xs k 0 h) ∙ filter_append f (take k xs) (get_or xs k 0 ∷ []) ∙ ap (λ b. filter f (take k xs) ++ cond b (get_or xs k 0 ∷ []) []) n ∙ nothing_more (filter f (take k xs))

-- if the entries from index `low` up to `low + d` fail the test, they add nothing to the filtered list
gap : (f : ℕ → Bool) (xs : List ℕ) (low d : ℕ) → low + d ≤ length xs → ((x : ℕ) → low ≤ x → x < low + d → f (get_or xs x 0) ≡ false) → filter f (take (low + d) xs) ≡ filter f (take low xs)
gap f xs low zero h out = ap (λ n. filter f (take n xs)) (omega arith)
gap f xs low (suc d) h out =
    ap (λ n. filter f (take n xs)) (omega arith) ∙ filter_no f xs (low + d) (omega arith) (out (low + d) (omega arith) (omega arith))
    ∙ gap f xs low d (omega arith) (λ x l m. out x l (omega arith))

pub filter_gap : (f : ℕ → Bool) (xs : List ℕ) (low j : ℕ) → low ≤ j → j ≤ length xs → ((x : ℕ) → low ≤ x → x < j → f (get_or xs x 0) ≡ false) → filter f (take j xs) ≡ filter f (take low xs)
filter_gap f xs low j h l out =
    let n : j ≡ low + (j - low) = omega arith in
    ap (λ n. filter f (take n xs)) n ∙ gap f xs low (j - low) (omega arith) (λ x a b. out x a (omega arith))

pub filter_rest : (f : ℕ → Bool) (xs : List ℕ) (low : ℕ) → low ≤ length xs → ((x : ℕ) → low ≤ x → x < length xs → f (get_or xs x 0) ≡ false) → filter f (take low xs) ≡ filter f xs
filter_rest f xs low h out = sym (filter_gap f xs low (length xs) h (omega arith) out) ∙ ap (λ ys. filter f ys) (take_all (length xs) xs (omega arith))

-- a row compared with itself has its own numbers
pub in_row : (ws : List ℕ) (at j : ℕ) → in_both ws at ws at j ≡ has_bit ws (64 * at + j)
in_row ws at j = twice (has_bit ws (64 * at + j))
  where
    twice : (b : Bool) → (b && b) ≡ b
    twice true = refl
    twice false = refl

module _ (v : View) (A : List Atom) (first : ℕ) (matrix : Matrix) (t : Table) (live have raised : List ℕ) (marks : List Mark) (K : Kept v A first matrix t live have raised marks) where
  -- the last row has the open numbers
  pub top_row : (at j : ℕ) → at ≡ length live - matrix.width → j < length matrix.numbers.items → has_bit live (64 * at + j) ≡ open_in v A (get_or matrix.numbers.items j 0)
  top_row at j e h = ap (λ n. has_bit live (64 * n + j)) e ∙ top_opened v A first matrix t live have raised marks K j h

  pub top_room : matrix.width ≤ length live
  top_room = K.wide

  -- the last row, cut out of the list, has `width` words
  pub top_slice : (ws : List ℕ) (at : ℕ) → ws ≡ live → at ≡ length live - matrix.width → length (take (length ws - at) (drop at ws)) ≡ matrix.width
  top_slice ws at e f = ap length (take_rest ws at) ∙ length-drop at ws ∙ omega (arith, ap length e, f, top_room)

  pub top_bits : (ws : List ℕ) (at j : ℕ) → ws ≡ live → at ≡ length live - matrix.width → j < length matrix.numbers.items → open_in v A (get_or matrix.numbers.items j 0) ≡ has_bit (take (length ws - at) (drop at ws)) j
  top_bits ws at j e f h = sym (ap (λ xs. has_bit xs j) (take_rest ws at ∙ ap (λ xs. drop at xs) e) ∙ drop_bits live at j ∙ top_row at j f h)

  pub rows_room : (b : ℕ) → b < length v.bounds → matrix.width * b + matrix.width ≤ length matrix.rows.items
  rows_room b h = let m = mul-le-mul_left {m = b + 1} {n = length v.bounds} matrix.width (omega arith) in omega (arith, K.table.matrix.rows_len)

  pub row_says : (at b : ℕ) → at ≡ length live - matrix.width → b < length v.bounds → (j : ℕ) → j < length matrix.numbers.items →
      (open_in v A (get_or matrix.numbers.items j 0) && has_item v (get_or matrix.numbers.items j 0) (item_of v b)) ≡ (has_bit live (64 * at + j) && has_bit matrix.rows.items (64 * (matrix.width * b) + j))
  row_says at b e l j h = sym (ap (λ x. x && has_bit matrix.rows.items (64 * (matrix.width * b) + j)) (top_row at j e h) ∙ ap (λ x. open_in v A (get_or matrix.numbers.items j 0) && x) (K.table.matrix.rows b j l h))

  pub open_first : (q : ℕ) → mem v.live q ≡ true → open_in v A q ≡ true → mem matrix.numbers.items q ≡ true
  open_first q m o = K.table.all q m (open_before v (take first A) (drop first A) q (live_once v K.table.matrix.well) (mem_in _ q m) (subst (λ xs. open_in v xs q ≡ true) (sym (take-append-drop first A)) o))

  pub options_once : (f : ℕ → Bool) → distinct (filter f matrix.numbers.items) ≡ true
  options_once f = distinct_filter f matrix.numbers.items K.table.matrix.once

  pub options_members : (i : Item) (p : ℕ) → mem (filter (λ p. open_in v A p && has_item v p i) matrix.numbers.items) p ≡ (mem v.live p && (open_in v A p && has_item v p i))
  options_members i p = mem_filter (λ p. open_in v A p && has_item v p i) matrix.numbers.items p ∙ same_truth _ _
      (λ e. let r = and_parts (mem matrix.numbers.items p) _ e in and_from _ _ (K.table.matrix.live p r.0) r.1)
      (λ e. let r = and_parts (mem v.live p) _ e in and_from _ _ (open_first p r.0 (and_parts (open_in v A p) _ r.1).0) r.1)

  none_in : (i : Item) → ((b : ℕ) → b < length v.bounds → same_item (item_of v b) i ≡ false) → (xs : List ℕ) → ((x : ℕ) → In x xs → In x v.live) → filter (λ p. open_in v A p && has_item v p i) xs ≡ []
  none_in i n [] h = refl
  none_in i n (x ∷ xs) h =
      let no : has_item v x i ≡ false = false_from_ne_true _ (λ y. let w = column_of v.bounds i (listed_item v K.table.matrix.well x (h x (inl refl)) i y) in both_ways _ (n w.0 w.1) (ap (λ k. same_item k i) w.2 ∙ same_item_self i)) in
      ap (λ b. cond (open_in v A x && b) (x ∷ filter (λ p. open_in v A p && has_item v p i) xs) (filter (λ p. open_in v A p && has_item v p i) xs)) no ∙ never (open_in v A x) _ _ ∙ none_in i n xs (λ y k. h y (inr k))
    where
      never : (b : Bool) (xs ys : List ℕ) → cond (b && false) xs ys ≡ ys
      never true xs ys = refl
      never false xs ys = refl

  pub none_has : (i : Item) → ((b : ℕ) → b < length v.bounds → same_item (item_of v b) i ≡ false) → [] ≡ filter (λ p. open_in v A p && has_item v p i) matrix.numbers.items
  none_has i n = sym (none_in i n matrix.numbers.items (λ x k. mem_in v.live x (K.table.matrix.live x (in_mem matrix.numbers.items x k))))

  pub open_one : (j : ℕ) → j < length matrix.numbers.items → open_in v A (get_or matrix.numbers.items j 0) ≡ true → (mem v.live (get_or matrix.numbers.items j 0) ≡ true) × (open_in v A (get_or matrix.numbers.items j 0) ≡ true)
  open_one j h o = ((K.table.matrix.live _ (listed_at matrix.numbers.items j h)), o)

  pub open_none : ((j : ℕ) → j < length matrix.numbers.items → open_in v A (get_or matrix.numbers.items j 0) ≡ false) → list_all (λ p. not (open_in v A p)) v.live ≡ true
  open_none n = all_from (λ p. not (open_in v A p)) v.live (λ q i. not_from_false _ (false_from_ne_true (open_in v A q) (λ o.
      let w = index_in matrix.numbers.items q (open_first q (in_mem v.live q i) o) in
      both_ways (open_in v A q) (subst (λ p. open_in v A p ≡ false) w.2 (n w.0 w.1)) o)))

  -- the last row, compared with itself
  module _ (ws rs : List ℕ) (at : ℕ) (same : ws ≡ live) (too : rs ≡ live) (e : at ≡ length live - matrix.width) where
    row_alone : (j : ℕ) → j < length matrix.numbers.items → open_in v A (get_or matrix.numbers.items j 0) ≡ in_both ws at rs at j
    row_alone j h = sym (ap (λ xs. in_both xs at rs at j) same ∙ ap (λ xs. in_both live at xs at j) too ∙ in_row live at j ∙ top_row at j e h)

    pub none_to : (high : ℕ) → length matrix.numbers.items ≤ high → NoneIn (in_both ws at rs at) 0 high → list_all (λ p. not (open_in v A p)) v.live ≡ true
    none_to high h none = open_none (λ j l. row_alone j l ∙ none j (omega arith) (omega arith))

    pub one_at : (j p : ℕ) → j < length matrix.numbers.items → in_both ws at rs at j ≡ true → p ≡ get_or matrix.numbers.items j 0 → (mem v.live p ≡ true) × (open_in v A p ≡ true)
    one_at j p h is at' = subst (λ (q : ℕ). (mem v.live q ≡ true) × (open_in v A q ≡ true)) (sym at') (open_one j h (row_alone j h ∙ is))

  -- the lists tell whether too few members have the item at an index
  pub due_says : (b : ℕ) → b < length v.bounds → nat_lt (count v (base v A) (item_of v b)) (least_at v A (item_of v b)) ≡ nat_lt (get_or have b 0) (get_or t.leasts.items b 0)
  due_says b h = ap (λ n. nat_lt n (least_at v A (item_of v b))) (sym (top_have v A first matrix t live have raised marks K b h)) ∙ ap (λ n. nat_lt (get_or have b 0) n) ((top_level v A first matrix t live have raised marks K).leasts (item_of v b) ∙ sym (K.table.leasts b h))

  -- if no item below `leasts_end` is due, no item of the view is
  pub none_short : (n : ℕ) → min t.leasts_end (length have) ≤ n → ((b : ℕ) → b < n → nat_lt (get_or have b 0) (get_or t.leasts.items b 0) ≡ false) → (b : ℕ) → b < length v.bounds → nat_lt (count v (base v A) (item_of v b)) (least_at v A (item_of v b)) ≡ false
  none_short n l h b m = due_says b m ∙ elim (cases_lt b t.leasts_end) [
    | inl i ↦ h b (omega (arith, l, i, m, K.have_len))
    | inr i ↦ le-ltb (get_or have b 0) (get_or t.leasts.items b 0) (omega (arith, K.table.quiet b i m))
  ]

  pub none_else : t.listed ≡ true → ((b : ℕ) → b < length v.bounds → nat_lt (count v (base v A) (item_of v b)) (least_at v A (item_of v b)) ≡ false) → (i : Item) → nat_lt (count v (base v A) i) (least_at v A i) ≡ false
  none_else y n i =
      let same = λ (k : Item). (top_level v A first matrix t live have raised marks K).leasts k in
      ap (λ m. nat_lt (count v (base v A) i) m) (same i) ∙ none_due v (take first A) (base v A)
      (all_bounds v.bounds (λ b. not (nat_lt (count v (base v A) b.item) (least_at v (take first A) b.item))) (λ b h. not_from_false _ (ap (λ m. nat_lt (count v (base v A) (item_of v b)) m) (sym (same (item_of v b))) ∙ n b h)))
      (due_atoms v (λ k. not (nat_lt (count v (base v A) k) (least_at v (take first A) k))) (take first A) (K.table.listed y) (λ k w. not_from_false _ (subst (λ j. nat_lt (count v (base v A) j) (least_at v (take first A) j) ≡ false) w.2 (ap (λ m. nat_lt (count v (base v A) (item_of v w.0)) m) (sym (same (item_of v w.0))) ∙ n w.0 w.1)))) i

-- if a placement of the design is open, the test that none is open fails
pub some_open : (v : View) (A : List Atom) (p : ℕ) → mem v.live p ≡ true → open_in v A p ≡ true → list_all (λ q. not (open_in v A q)) v.live ≡ false
some_open v A p m o = false_from_ne_true _ (λ h. both_ways (open_in v A p) (not-true _ (all_in (λ q. not (open_in v A q)) v.live h p (mem_in v.live p m))) o)
