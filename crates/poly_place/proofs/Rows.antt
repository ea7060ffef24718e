-- Rows of items: how they are found, and how they grow.
use Rattle.std.proofs.Common.{Bool, List, None, Option, Ordering, Some, [], add-one, ap, arith, cond, false, get_or, inl, inr, length, map, not, refl, set, subst, suc, sym, take, true, zero, ℕ, ◌&&◌, ◌||◌, ◌++◌, ◌+◌, ◌<◌, ◌∙◌, ◌∷◌, ◌≡◌, ◌≢◌, append_assoc}
use mathlib.Core.Bool.{true≢false}
use Rattle.std.specs.Prelude.{filter}
use Rattle.std.specs.List.{AllPairs, HoldsAt, list_all, list_any}
use Rattle.std.specs.List.Sorted.{IsNonDecreasingBy, IsPartitionPoint}
use Rattle.std.specs.Option.{option_map}
use Rattle.std.specs.Ordering.{is_eq, is_lt, ordering_index, ordering_reverse}
use Rattle.std.specs.declared.cmp.Ordering.TheVariants.{Equal, Greater, Less}
use Rattle.std.proofs.lemmas.Bool.{and_from, and_parts, both_ways, cases_Bool, cases_lt}
use Rattle.std.proofs.lemmas.List.{append-nil, get_or-take, length-take, take_more}
use Rattle.std.proofs.lemmas.List.Elements.{filter-append}
use Rattle.std.proofs.lemmas.List.Sorted.{searchable_from_sorted}
use Rattle.poly_grid.specs.Spot.{Spot}
use Rattle.poly_shape.specs.Order.{IsAscending, spot_cmp}
use Rattle.poly_tiling.specs.declared.bound.Bound.{Bound}
use Rattle.poly_tiling.specs.declared.item.Item.{Item}
use Rattle.poly_tiling.specs.declared.item.Item.TheVariants.{Cell, Piece}
use Rattle.poly_tiling.specs.Names.{item_cmp, items_ascend}
use Rattle.poly_tiling.specs.Lists.{mem}
use Rattle.poly_tiling.specs.Puzzle.{View, has_item, same_item}
use Rattle.poly_tiling.proofs.Contained.{at_in, in_contains, pairs_cons, pairs_head, pairs_none, pairs_rest}
use Rattle.poly_tiling.proofs.Lists.{In, all_in, any_append, any_in, in_mem, map_in, mem_in, same_truth}
use Rattle.poly_tiling.proofs.Ranks.{lt_less}
use Rattle.poly_tiling.proofs.Searched.{equal_is, item_total, less_differs, same_item_ties}
use Rattle.poly_tiling.proofs.Tilings.{same_item_is, same_item_self}
use Rattle.poly_place.proofs.Marks.{or_false}
use Rattle.poly_place.specs.Index.{AreNumbersWith, AreRows, Row, row_index, row_in, rows_without, with_numbers}
use Rattle.poly_place.proofs.Numbers.{get_or_any, take_front}

abbrev before : Row → Row → Type 0
before r s = item_cmp r.0 s.0 ≡ Less

pub flips : (i j : Item) → same_item i j ≡ same_item j i
flips i j = same_truth (same_item i j) (same_item j i)
    (λ h. subst (λ z. same_item z i ≡ true) (same_item_is i j h) (same_item_self i))
    (λ h. subst (λ z. same_item z j ≡ true) (same_item_is j i h) (same_item_self j))

-- ---- rows in item order

bounds_later : (b : Bound) (bs : List Bound) → items_ascend (b ∷ bs) ≡ true → (c : Bound) → In c bs → item_cmp b.item c.item ≡ Less
bounds_later b bs up c i = lt_less (item_cmp b.item c.item) (all_in (λ c. is_lt (item_cmp b.item c.item)) bs (and_parts (list_all (λ c. is_lt (item_cmp b.item c.item)) bs) (items_ascend bs) up).0 c i)

bounds_rest : (b : Bound) (bs : List Bound) → items_ascend (b ∷ bs) ≡ true → items_ascend bs ≡ true
bounds_rest b bs up = (and_parts (list_all (λ c. is_lt (item_cmp b.item c.item)) bs) (items_ascend bs) up).1

cons_head : {X : Type 0} (x y : X) (xs ys : List X) → x ∷ xs ≡ y ∷ ys → x ≡ y
cons_head x y xs ys e = cc

cons_tail : {X : Type 0} (x y : X) (xs ys : List X) → x ∷ xs ≡ y ∷ ys → xs ≡ ys
cons_tail x y xs ys e = cc

cons_none : {X : Type 0} (x : X) (xs : List X) → x ∷ xs ≡ [] → ⊥
cons_none x xs e = cc

none_cons : {X : Type 0} (x : X) (xs : List X) → [] ≡ x ∷ xs → ⊥
none_cons x xs e = cc

abbrev keys : List Row → List Item
keys rows = map (λ r. r.0) rows

abbrev items_of_bounds : List Bound → List Item
items_of_bounds bs = map (λ b. b.item) bs

items_in : (rows : List Row) (bs : List Bound) → map (λ r. r.0) rows ≡ map (λ b. b.item) bs → (r : Row) → In r rows → (b : Bound) × In b bs × (b.item ≡ r.0)
items_in [] bs e r i = absurd i
items_in (s ∷ rows) [] e r i = absurd (cons_none s.0 (keys rows) e)
items_in (s ∷ rows) (b ∷ bs) e r (inl same) = (b, inl refl, sym (cons_head s.0 b.item (keys rows) (items_of_bounds bs) e) ∙ ap (λ (z : Row). z.0) same)
items_in (s ∷ rows) (b ∷ bs) e r (inr i) = let t = items_in rows bs (cons_tail s.0 b.item (keys rows) (items_of_bounds bs) e) r i in (t.0, inr t.1, t.2)

-- rows for the items of ascending bounds are in item order
pub rows_up : (rows : List Row) (bs : List Bound) → map (λ r. r.0) rows ≡ map (λ b. b.item) bs → items_ascend bs ≡ true → AreRows rows
rows_up [] bs e up = pairs_none before
rows_up (r ∷ rows) [] e up = absurd (cons_none r.0 (keys rows) e)
rows_up (r ∷ rows) (b ∷ bs) e up =
    let first : b.item ≡ r.0 = sym (cons_head r.0 b.item (keys rows) (items_of_bounds bs) e) in
    let rest : keys rows ≡ items_of_bounds bs = cons_tail r.0 b.item (keys rows) (items_of_bounds bs) e in
    pairs_cons before r rows (λ s i.
    let t = items_in rows bs rest s i in
    subst (λ k. item_cmp k s.0 ≡ Less) first (subst (λ k. item_cmp b.item k ≡ Less) t.2 (bounds_later b bs up t.0 t.1)))
    (rows_up rows bs rest (bounds_rest b bs up))

pub rows_stay : (has : ℕ → Item → Bool) (ns : List ℕ) (rows : List Row) → AreRows rows → AreRows (with_numbers has ns rows)
rows_stay has ns [] up = pairs_none before
rows_stay has ns (r ∷ rows) up = pairs_cons before (r.0, r.1 ++ filter (λ n. has n r.0) ns) (with_numbers has ns rows)
    (λ y i. let z = map_in (λ (s : Row). (s.0, s.1 ++ filter (λ n. has n s.0) ns)) rows y i in subst (λ (w : Row). item_cmp r.0 w.0 ≡ Less) z.2 (pairs_head before r rows up z.0 z.1))
    (rows_stay has ns rows (pairs_rest before r rows up))

pub items_stay : (has : ℕ → Item → Bool) (ns : List ℕ) (rows : List Row) → map (λ r. r.0) (with_numbers has ns rows) ≡ map (λ r. r.0) rows
items_stay has ns [] = refl
items_stay has ns (r ∷ rows) = ap (λ is. r.0 ∷ is) (items_stay has ns rows)

pub items_without : (marked : ℕ → Bool) (old : List Row) (bs : List Bound) → map (λ r. r.0) (rows_without marked old bs) ≡ map (λ b. b.item) bs
items_without marked old [] = refl
items_without marked old (b ∷ bs) = ap (λ is. b.item ∷ is) (items_without marked old bs)

-- other rows are of other items
others : (r : Row) (rows : List Row) (i : Item) → AreRows (r ∷ rows) → same_item r.0 i ≡ true → (s : Row) → In s rows → same_item s.0 i ≡ false
others r rows i up h s j = elim (cases_Bool (same_item s.0 i)) [
  | inl t ↦
      let less : is_lt (item_cmp r.0 s.0) ≡ true = ap is_lt (pairs_head before r rows up s j) in
      let same : r.0 ≡ s.0 = same_item_is r.0 i h ∙ sym (same_item_is s.0 i t) in
      absurd (both_ways (same_item r.0 s.0) (less_differs r.0 s.0 less) (subst (λ z. same_item r.0 z ≡ true) same (same_item_self r.0)))
  | inr f ↦ f
]

-- ---- finding

pub found_index : (rows : List Row) (i : Item) (at : ℕ) (d : Row) → AreRows rows → at < length rows → item_cmp (get_or rows at d).0 i ≡ Equal → Some at ≡ row_index rows i
found_index [] i at d up l e = absurd (omega arith)
found_index (r ∷ rows) i zero d up l e = sym (ap (λ b. cond b (Some 0) (option_map suc (row_index rows i))) (same_item_ties r.0 i ∙ ap is_eq e))
found_index (r ∷ rows) i (suc k) d up l e =
    let low : k < length rows = omega arith in
    let less : is_lt (item_cmp r.0 i) ≡ true = ap is_lt (subst (λ j. item_cmp r.0 j ≡ Less) (equal_is (get_or rows k d).0 i e) (pairs_head before r rows up (get_or rows k d) (at_in rows k d low))) in
    ap (λ o. option_map suc o) (found_index rows i k d (pairs_rest before r rows up) low e)
    ∙ sym (ap (λ b. cond b (Some 0) (option_map suc (row_index rows i))) (less_differs r.0 i less))

no_index : (rows : List Row) (i : Item) → ((r : Row) → In r rows → same_item r.0 i ≡ false) → None ≡ row_index rows i
no_index [] i none = refl
no_index (r ∷ rows) i none =
    ap (λ o. option_map suc o) (no_index rows i (λ s j. none s (inr j)))
    ∙ sym (ap (λ b. cond b (Some 0) (option_map suc (row_index rows i))) (none r (inl refl)))

sorted_at : (rows : List Row) → AreRows rows → (k : ℕ) (d : Row) → k + 1 < length rows → is_lt (item_cmp (get_or rows (suc k) d).0 (get_or rows k d).0) ≡ false
sorted_at rows up k d l = ap is_lt (item_total.antisymm (get_or rows (suc k) d).0 (get_or rows k d).0 ∙ ap ordering_reverse (up k (suc k) d (omega arith) (omega (arith, l))))

searchable : (rows : List Row) (i : Item) → AreRows rows → IsNonDecreasingBy (λ r. ordering_index (item_cmp r.0 i)) rows
searchable rows i up = searchable_from_sorted item_total (λ r. r.0) rows i (λ k d l h. rw (add-one) (sorted_at rows up k d h))

is_equal : (o : Ordering) → is_eq o ≡ true → o ≡ Equal
is_equal Less e = cc
is_equal Equal e = refl
is_equal Greater e = cc

pub row_found : (rows : List Row) (i : Item) (ord : Row → Ordering) → ((r : Row) → ord r ≡ item_cmp r.0 i) → AreRows rows → (at : ℕ) → at < length rows → HoldsAt (λ r. ord r ≡ Equal) rows at →
    Some at ≡ row_index rows i
row_found rows i ord is up at low here = let d : Row = (i, []) in found_index rows i at d up low (sym (is (get_or rows at d)) ∙ here d)

pub row_missing : (rows : List Row) (i : Item) (ord : Row → Ordering) → ((r : Row) → ord r ≡ item_cmp r.0 i) → AreRows rows → (at : ℕ) →
    (IsNonDecreasingBy (λ r. ordering_index (ord r)) rows → IsPartitionPoint (λ r. ord r ≡ Less) (λ r. ord r ≡ Greater) rows at) → None ≡ row_index rows i
row_missing rows i ord is up at point =
    let rises : IsNonDecreasingBy (λ r. ordering_index (ord r)) rows = λ m n d l h. omega (arith, searchable rows i up m n d l h, ap ordering_index (is (get_or rows m d)), ap ordering_index (is (get_or rows n d))) in
    let numbered = point rises in
    no_index rows i (λ r j. elim (cases_Bool (same_item r.0 i)) [
      | inl t ↦
          let e : item_cmp r.0 i ≡ Equal = is_equal (item_cmp r.0 i) (sym (same_item_ties r.0 i) ∙ t) in
          let k = in_contains rows r j in
          let same : ord (get_or rows k.0 r) ≡ Equal = is (get_or rows k.0 r) ∙ ap (λ z. item_cmp z.0 i) k.2 ∙ e in
          elim (cases_lt k.0 at) [ inl l ↦ let o = numbered.0 k.0 r (omega arith) l in cc | inr g ↦ let o = numbered.1 k.0 r g k.1 in cc ]
      | inr f ↦ f
    ])

-- ---- the row that was found

suc_some : (o : Option ℕ) (at : ℕ) → option_map suc o ≡ Some at → (k : ℕ) × (at ≡ suc k) × (o ≡ Some k)
suc_some None at e = cc
suc_some (Some k) at e = (k, cc, refl)

suc_none : (o : Option ℕ) → option_map suc o ≡ None → o ≡ None
suc_none None e = refl
suc_none (Some k) e = cc

row_at_by : (r : Row) (rows : List Row) (i : Item) (at : ℕ) (d : Row) → ((k : ℕ) → row_index rows i ≡ Some k → row_in rows i ≡ (get_or rows k d).1) →
    (b : Bool) → cond b (Some 0) (option_map suc (row_index rows i)) ≡ Some at → cond b r.1 (row_in rows i) ≡ (get_or (r ∷ rows) at d).1
row_at_by r rows i zero d ih true e = refl
row_at_by r rows i (suc k) d ih true e = cc
row_at_by r rows i at d ih false e =
    let t = suc_some (row_index rows i) at e in
    subst (λ m. row_in rows i ≡ (get_or (r ∷ rows) m d).1) (sym t.1) (ih t.0 t.2)

pub row_at : (rows : List Row) (i : Item) (at : ℕ) (d : Row) → row_index rows i ≡ Some at → row_in rows i ≡ (get_or rows at d).1
row_at [] i at d e = cc
row_at (r ∷ rows) i at d e = row_at_by r rows i at d (λ k. row_at rows i k d) (same_item r.0 i) e

row_none_by : (r : Row) (rows : List Row) (i : Item) → (row_index rows i ≡ None → row_in rows i ≡ []) →
    (b : Bool) → cond b (Some 0) (option_map suc (row_index rows i)) ≡ None → cond b r.1 (row_in rows i) ≡ []
row_none_by r rows i ih true e = cc
row_none_by r rows i ih false e = ih (suc_none (row_index rows i) e)

pub row_none : (rows : List Row) (i : Item) → row_index rows i ≡ None → row_in rows i ≡ []
row_none [] i e = refl
row_none (r ∷ rows) i e = row_none_by r rows i (row_none rows i) (same_item r.0 i) e

-- ---- one more number

abbrev given : (Item → Bool) → ℕ → Row → Row
given f n r = (r.0, r.1 ++ filter (λ m. f r.0) (n ∷ []))

given_none : (f : Item → Bool) (n : ℕ) (r : Row) → f r.0 ≡ false → given f n r ≡ r
given_none f n r e = ap (λ ns. (r.0, ns)) (ap (λ b. r.1 ++ cond b (n ∷ []) []) e ∙ append-nil r.1)

given_one : (f : Item → Bool) (n : ℕ) (r : Row) → f r.0 ≡ true → given f n r ≡ (r.0, r.1 ++ n ∷ [])
given_one f n r e = ap (λ b. (r.0, r.1 ++ cond b (n ∷ []) [])) e

pub all_none : (f : Item → Bool) (n : ℕ) (rows : List Row) → ((r : Row) → In r rows → f r.0 ≡ false) → with_numbers (λ m i. f i) (n ∷ []) rows ≡ rows
all_none f n [] none = refl
all_none f n (r ∷ rows) none = ap (λ s. s ∷ with_numbers (λ m i. f i) (n ∷ []) rows) (given_none f n r (none r (inl refl))) ∙ ap (λ rs. r ∷ rs) (all_none f n rows (λ s j. none s (inr j)))

no_row_by : (r : Row) (rows : List Row) (i : Item) → (row_index rows i ≡ None → (s : Row) → In s rows → same_item s.0 i ≡ false) →
    (b : Bool) → same_item r.0 i ≡ b → cond b (Some 0) (option_map suc (row_index rows i)) ≡ None → (s : Row) → In s (r ∷ rows) → same_item s.0 i ≡ false
no_row_by r rows i ih true is e s j = cc
no_row_by r rows i ih false is e s (inl same) = ap (λ (z : Row). same_item z.0 i) (sym same) ∙ is
no_row_by r rows i ih false is e s (inr j) = ih (suc_none (row_index rows i) e) s j

no_row : (rows : List Row) (i : Item) → row_index rows i ≡ None → (s : Row) → In s rows → same_item s.0 i ≡ false
no_row [] i e s j = absurd j
no_row (r ∷ rows) i e s j = no_row_by r rows i (no_row rows i) (same_item r.0 i) refl e s j

pub added_none : (rows : List Row) (i : Item) (n : ℕ) → row_index rows i ≡ None → rows ≡ with_numbers (λ m j. same_item i j) (n ∷ []) rows
added_none rows i n e = sym (all_none (λ j. same_item i j) n rows (λ s j. flips i s.0 ∙ no_row rows i e s j))

added_by : (r : Row) (rows : List Row) (i : Item) (n at : ℕ) (d : Row) → AreRows (r ∷ rows) →
    ((k : ℕ) → row_index rows i ≡ Some k → set rows k ((get_or rows k d).0, (get_or rows k d).1 ++ n ∷ []) ≡ with_numbers (λ m j. same_item i j) (n ∷ []) rows) →
    (b : Bool) → same_item r.0 i ≡ b → cond b (Some 0) (option_map suc (row_index rows i)) ≡ Some at →
    set (r ∷ rows) at ((get_or (r ∷ rows) at d).0, (get_or (r ∷ rows) at d).1 ++ n ∷ []) ≡ with_numbers (λ m j. same_item i j) (n ∷ []) (r ∷ rows)
added_by r rows i n zero d up ih true is e =
    sym (ap (λ s. s ∷ with_numbers (λ m j. same_item i j) (n ∷ []) rows) (given_one (λ j. same_item i j) n r (flips i r.0 ∙ is))
    ∙ ap (λ rs. (r.0, r.1 ++ n ∷ []) ∷ rs) (all_none (λ j. same_item i j) n rows (λ s j. flips i s.0 ∙ others r rows i up is s j)))
added_by r rows i n (suc k) d up ih true is e = cc
added_by r rows i n at d up ih false is e =
    let t = suc_some (row_index rows i) at e in
    rw (t.1) (ap (λ rs. r ∷ rs) (ih t.0 t.2)
    ∙ sym (ap (λ s. s ∷ with_numbers (λ m j. same_item i j) (n ∷ []) rows) (given_none (λ j. same_item i j) n r (flips i r.0 ∙ is))))

pub added : (rows : List Row) (i : Item) (n at : ℕ) (d : Row) → AreRows rows → row_index rows i ≡ Some at →
    set rows at ((get_or rows at d).0, (get_or rows at d).1 ++ n ∷ []) ≡ with_numbers (λ m j. same_item i j) (n ∷ []) rows
added [] i n at d up e = cc
added (r ∷ rows) i n at d up e = added_by r rows i n at d up (λ k. added rows i n k d (pairs_rest before r rows up)) (same_item r.0 i) refl e

-- ---- one number for several items

joined_by : (xs : List ℕ) (n : ℕ) (a b : Bool) → (a ≡ true → b ≡ false) → (xs ++ cond a (n ∷ []) []) ++ cond b (n ∷ []) [] ≡ xs ++ cond (a || b) (n ∷ []) []
joined_by xs n true b h = ap (λ c. (xs ++ n ∷ []) ++ cond c (n ∷ []) []) (h refl) ∙ append-nil (xs ++ n ∷ [])
joined_by xs n false b h = ap (λ l. l ++ cond b (n ∷ []) []) (append-nil xs)

-- if no item passes both tests, adding a number to the rows whose items pass f, and then to those whose items pass g, adds it
-- to all rows whose items pass f or g
pub joined : (f g : Item → Bool) (n : ℕ) (rows : List Row) → ((i : Item) → f i ≡ true → g i ≡ false) →
    with_numbers (λ m i. g i) (n ∷ []) (with_numbers (λ m i. f i) (n ∷ []) rows) ≡ with_numbers (λ m i. f i || g i) (n ∷ []) rows
joined f g n [] h = refl
joined f g n (r ∷ rows) h =
    ap (λ ns. (r.0, ns) ∷ with_numbers (λ m i. g i) (n ∷ []) (with_numbers (λ m i. f i) (n ∷ []) rows)) (joined_by r.1 n (f r.0) (g r.0) (h r.0))
    ∙ ap (λ rs. (r.0, r.1 ++ cond (f r.0 || g r.0) (n ∷ []) []) ∷ rs) (joined f g n rows h)

any_cells : (cells : List Spot) (i : Item) → list_any (λ c. same_item (Cell c) i) cells ≡ list_any (λ j. same_item j i) (map (λ c. Cell c) cells)
any_cells [] i = refl
any_cells (c ∷ cells) i = ap (λ b. same_item (Cell c) i || b) (any_cells cells i)

no_cell : (name : List ℕ) (cells : List Spot) (i : Item) → same_item (Piece name) i ≡ true → list_any (λ c. same_item (Cell c) i) cells ≡ false
no_cell name cells (Cell d) h = cc
no_cell name [] (Piece m) h = refl
no_cell name (c ∷ cells) (Piece m) h = no_cell name cells (Piece m) h

-- adding a number to the row of a piece, and then to the rows of cells, adds it to the rows of all these items
pub to_items : (name : List ℕ) (cells : List Spot) (n : ℕ) (rows : List Row) →
    with_numbers (λ m i. list_any (λ c. same_item (Cell c) i) cells) (n ∷ []) (with_numbers (λ m i. same_item (Piece name) i) (n ∷ []) rows)
    ≡ with_numbers (λ m i. same_item (Piece name) i || list_any (λ j. same_item j i) (map (λ c. Cell c) cells)) (n ∷ []) rows
to_items name cells n rows = joined (λ i. same_item (Piece name) i) (λ i. list_any (λ c. same_item (Cell c) i) cells) n rows (no_cell name cells)
    ∙ (λ k. with_numbers (λ m i. same_item (Piece name) i || any_cells cells i k) (n ∷ []) rows)

earlier_less : (cells : List Spot) (k : ℕ) (c d : Spot) → IsAscending spot_cmp cells → k < length cells → c ≡ get_or cells k c → In d (take k cells) → spot_cmp d c ≡ Less
earlier_less cells k c d up lt is i =
    let r = in_contains (take k cells) d i in
    let a = length-take k cells in
    let before : r.0 < k = omega (arith, a, r.1) in
    let here : get_or cells r.0 d ≡ d = sym (get_or-take k cells r.0 d before) ∙ r.2 in
    let there : get_or cells k d ≡ c = get_or_any cells k d c lt ∙ sym is in
    subst (λ z. spot_cmp z c ≡ Less) here (subst (λ z. spot_cmp (get_or cells r.0 d) z ≡ Less) there (up r.0 k d before lt))

abbrev any_of : List Spot → Item → Bool
any_of cells i = list_any (λ c. same_item (Cell c) i) cells

earlier_apart : (cells : List Spot) (k : ℕ) (c : Spot) → IsAscending spot_cmp cells → k < length cells → c ≡ get_or cells k c → (i : Item) → any_of (take k cells) i ≡ true → same_item (Cell c) i ≡ false
earlier_apart cells k c up lt is i h =
    let r = any_in (λ d. same_item (Cell d) i) (take k cells) h in
    let less : is_lt (item_cmp (Cell r.0) (Cell c)) ≡ true = ap is_lt (earlier_less cells k c r.0 up lt is r.1) in
    flips (Cell c) i ∙ subst (λ z. same_item z (Cell c) ≡ false) (same_item_is (Cell r.0) i r.2) (less_differs (Cell r.0) (Cell c) less)

one_more : (cells : List Spot) (k : ℕ) (c : Spot) → k < length cells → c ≡ get_or cells k c → (i : Item) → (any_of (take k cells) i || same_item (Cell c) i) ≡ any_of (take (k + 1) cells) i
one_more cells k c lt is i = sym (ap (λ l. any_of l i) (take_more cells k c lt) ∙ any_append (λ d. same_item (Cell d) i) (take k cells) (get_or cells k c ∷ [])
    ∙ ap (λ z. any_of (take k cells) i || (same_item (Cell z) i || false)) (sym is) ∙ ap (λ b. any_of (take k cells) i || b) (or_false (same_item (Cell c) i)))

-- adding a number to the rows of the first k cells, and then to the row of the next cell, adds it to the rows of the first
-- k + 1 cells
pub to_next : (cells : List Spot) (k : ℕ) (c : Spot) (n : ℕ) (rows : List Row) → IsAscending spot_cmp cells → k < length cells → c ≡ get_or cells k c →
    with_numbers (λ m i. same_item (Cell c) i) (n ∷ []) (with_numbers (λ m i. any_of (take k cells) i) (n ∷ []) rows) ≡ with_numbers (λ m i. any_of (take (k + 1) cells) i) (n ∷ []) rows
to_next cells k c n rows up lt is = joined (λ i. any_of (take k cells) i) (λ i. same_item (Cell c) i) n rows (earlier_apart cells k c up lt is)
    ∙ (λ j. with_numbers (λ m i. one_more cells k c lt is i j) (n ∷ []) rows)

-- adding a number to the rows of no cells changes nothing
pub to_no_cell : (n : ℕ) (rows : List Row) → rows ≡ with_numbers (λ m i. any_of [] i) (n ∷ []) rows
to_no_cell n rows = sym (all_none (λ i. false) n rows (λ r j. refl))

-- ---- several numbers

pub with_none : (has : ℕ → Item → Bool) (rows : List Row) → with_numbers has [] rows ≡ rows
with_none has [] = refl
with_none has (r ∷ rows) = ap (λ ns. (r.0, ns) ∷ with_numbers has [] rows) (append-nil r.1) ∙ ap (λ rs. r ∷ rs) (with_none has rows)

pub with_more : (has : ℕ → Item → Bool) (ms ns : List ℕ) (rows : List Row) → with_numbers has ns (with_numbers has ms rows) ≡ with_numbers has (ms ++ ns) rows
with_more has ms ns [] = refl
with_more has ms ns (r ∷ rows) =
    ap (λ l. (r.0, l) ∷ with_numbers has ns (with_numbers has ms rows)) (append_assoc r.1 (filter (λ n. has n r.0) ms) (filter (λ n. has n r.0) ns) ∙ ap (λ l. r.1 ++ l) (sym (filter-append (λ n. has n r.0) ms ns)))
    ∙ ap (λ rs. (r.0, r.1 ++ filter (λ n. has n r.0) (ms ++ ns)) ∷ rs) (with_more has ms ns rows)

-- ---- the row of an item

row_grown_by : (has : ℕ → Item → Bool) (ns : List ℕ) (r : Row) (rows : List Row) (i : Item) → (list_any (λ s. same_item s.0 i) rows ≡ true → row_in (with_numbers has ns rows) i ≡ row_in rows i ++ filter (λ n. has n i) ns) →
    (b : Bool) → same_item r.0 i ≡ b → (b || list_any (λ s. same_item s.0 i) rows) ≡ true →
    cond b (r.1 ++ filter (λ n. has n r.0) ns) (row_in (with_numbers has ns rows) i) ≡ cond b r.1 (row_in rows i) ++ filter (λ n. has n i) ns
row_grown_by has ns r rows i ih true is e = ap (λ j. r.1 ++ filter (λ n. has n j) ns) (same_item_is r.0 i is)
row_grown_by has ns r rows i ih false is e = ih e

pub row_grown : (has : ℕ → Item → Bool) (ns : List ℕ) (rows : List Row) (i : Item) → list_any (λ r. same_item r.0 i) rows ≡ true → row_in (with_numbers has ns rows) i ≡ row_in rows i ++ filter (λ n. has n i) ns
row_grown has ns [] i e = cc
row_grown has ns (r ∷ rows) i e = row_grown_by has ns r rows i (row_grown has ns rows i) (same_item r.0 i) refl e

row_kept_by : (marked : ℕ → Bool) (old : List Row) (b : Bound) (bs : List Bound) (i : Item) →
    (list_any (λ c. same_item c.item i) bs ≡ true → row_in (rows_without marked old bs) i ≡ filter (λ n. not (marked n)) (row_in old i)) →
    (t : Bool) → same_item b.item i ≡ t → (t || list_any (λ c. same_item c.item i) bs) ≡ true →
    cond t (filter (λ n. not (marked n)) (row_in old b.item)) (row_in (rows_without marked old bs) i) ≡ filter (λ n. not (marked n)) (row_in old i)
row_kept_by marked old b bs i ih true is e = ap (λ j. filter (λ n. not (marked n)) (row_in old j)) (same_item_is b.item i is)
row_kept_by marked old b bs i ih false is e = ih e

pub row_kept : (marked : ℕ → Bool) (old : List Row) (bs : List Bound) (i : Item) → list_any (λ b. same_item b.item i) bs ≡ true →
    row_in (rows_without marked old bs) i ≡ filter (λ n. not (marked n)) (row_in old i)
row_kept marked old [] i e = cc
row_kept marked old (b ∷ bs) i e = row_kept_by marked old b bs i (row_kept marked old bs i) (same_item b.item i) refl e

no_row_by_item : (r : Row) (rows : List Row) (i : Item) → (list_any (λ s. same_item s.0 i) rows ≡ false → row_in rows i ≡ []) →
    (b : Bool) → (b || list_any (λ s. same_item s.0 i) rows) ≡ false → cond b r.1 (row_in rows i) ≡ []
no_row_by_item r rows i ih true e = absurd (true≢false e)
no_row_by_item r rows i ih false e = ih e

pub no_row_in : (rows : List Row) (i : Item) → list_any (λ r. same_item r.0 i) rows ≡ false → row_in rows i ≡ []
no_row_in [] i e = refl
no_row_in (r ∷ rows) i e = no_row_by_item r rows i (no_row_in rows i) (same_item r.0 i) e

-- if rows and bounds have the same items in the same order, a row has an item exactly if a bound has it
pub same_rows : (rows : List Row) (bs : List Bound) (i : Item) → map (λ r. r.0) rows ≡ map (λ b. b.item) bs → list_any (λ r. same_item r.0 i) rows ≡ list_any (λ b. same_item b.item i) bs
same_rows [] [] i e = refl
same_rows [] (b ∷ bs) i e = absurd (none_cons b.item (items_of_bounds bs) e)
same_rows (r ∷ rows) [] i e = absurd (cons_none r.0 (keys rows) e)
same_rows (r ∷ rows) (b ∷ bs) i e =
    let first : r.0 ≡ b.item = cons_head r.0 b.item (keys rows) (items_of_bounds bs) e in
    let rest = same_rows rows bs i (cons_tail r.0 b.item (keys rows) (items_of_bounds bs) e) in
    ap (λ k. same_item k i || list_any (λ s. same_item s.0 i) rows) first ∙ ap (λ t. same_item b.item i || t) rest

-- ---- rows that are lent to a call and written back

many_rows : (has : ℕ → Item → Bool) (ns : List ℕ) (rows : List Row) → length (with_numbers has ns rows) ≡ length rows
many_rows has ns [] = refl
many_rows has ns (r ∷ rows) = ap suc (many_rows has ns rows)

pub written_back : (has : ℕ → Item → Bool) (ns : List ℕ) (rows now rest : List Row) (n : ℕ) → now ≡ with_numbers has ns rows → length rows ≡ n → take n (now ++ rest) ≡ now
written_back has ns rows now rest n is len =
    let e : n ≡ length now = omega (arith, len, many_rows has ns rows, ap length is) in
    ap (λ k. take k (now ++ rest)) e ∙ take_front now rest

-- ---- the numbers with an item

pub with_live : (v : View) (i : Item) (ns : List ℕ) → AreNumbersWith v i ns → (n : ℕ) → In n ns → In n v.live × (has_item v n i ≡ true)
with_live v i ns x n j = let r = and_parts (mem v.live n) (has_item v n i) (sym (x.exact n) ∙ in_mem ns n j) in (mem_in v.live n r.0, r.1)

pub live_with : (v : View) (i : Item) (ns : List ℕ) → AreNumbersWith v i ns → (n : ℕ) → In n v.live → has_item v n i ≡ true → In n ns
live_with v i ns x n j h = mem_in ns n (x.exact n ∙ and_from (mem v.live n) (has_item v n i) (in_mem v.live n j) h)

pub with_from : (v : View) (i : Item) (ns : List ℕ) → ((n : ℕ) → In n ns → In n v.live × (has_item v n i ≡ true)) → ((n : ℕ) → In n v.live → has_item v n i ≡ true → In n ns) → AllPairs (λ x y. x ≢ y) ns → AreNumbersWith v i ns
with_from v i ns to from once = record {
  exact = λ n. same_truth (mem ns n) (mem v.live n && has_item v n i)
      (λ h. let r = to n (mem_in ns n h) in and_from (mem v.live n) (has_item v n i) (in_mem v.live n r.0) r.1)
      (λ h. let r = and_parts (mem v.live n) (has_item v n i) h in in_mem ns n (from n (mem_in v.live n r.0) r.1));
  apart = once;
}
