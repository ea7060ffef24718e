-- What taking a placement closes, item by item, and what is closed at a list of atoms.
use Rattle.std.proofs.Common.{◌≡◌, ℕ, zero, suc, ◌+◌, ◌<◌, ◌≤◌, Bool, true, false, not, ◌&&◌, ◌||◌, eqb, leb, ltb, List, [], ◌∷◌, ◌++◌, inl, inr, refl, sym, ap, subst, ◌∙◌, arith, length, get_or, Option, None, Some, slice_get}
use Rattle.std.specs.List.{list_any, list_all}
use Rattle.std.proofs.lemmas.Bool.{eq-eqb, ne_eqb, and_parts, and_from, or_parts, or_cases, or_left, or_right, both_ways, not-true, not_from_false, false_from_ne_true, le-leb, ltb-true, lt-ltb, cases_Bool, cases_eq, true≢false}
use Rattle.poly_grid.specs.Spot.{Spot}
use Rattle.poly_shape.specs.Order.{spot_eq, spot_equiv}
use Rattle.poly_design.specs.declared.placement.Placement.{Placement}
use Rattle.poly_tiling.specs.declared.bound.Bound.{Bound}
use Rattle.poly_tiling.specs.declared.item.Item.{Item}
use Rattle.poly_tiling.specs.declared.item.Item.TheVariants.{Cell, Piece}
use Rattle.poly_tiling.specs.Lists.{one, tally, mem, put, put_all}
use Rattle.poly_tiling.specs.Names.{WellNamed}
use Rattle.poly_tiling.specs.Puzzle.{View, conflicts, count, has_cell, has_item, is_piece, items, items_of, same_item, share_cell}
use Rattle.poly_tiling.proofs.Lists.{In, any_append, any_from, any_in, in_map, in_mem, map_in, mem_in, same_truth}
use Rattle.poly_tiling.proofs.Ascending.{in_put_self, ascending_same, put_in, in_put, put_up}
use Rattle.poly_tiling.proofs.Named.{listed_item}
use Rattle.poly_tiling.proofs.Tilings.{same_item_is, same_item_self, same_spot_is}
use Rattle.poly_atom.specs.declared.atom.Atom.{Atom}
use Rattle.poly_atom.specs.declared.atom.Atom.TheVariants.{Has, Lacks}
use Rattle.poly_atom.specs.Hopeless.{base, lacks}
use Rattle.poly_atom.proofs.Bases.{base_up}
use Rattle.poly_frame.specs.Open.{open_in, others, ruled_out, most_at}
use Rattle.poly_frame.specs.Bits.{has_bit}
use Rattle.poly_frame.specs.FrameItems.{Noted, item_at, item_of, times}
use Rattle.poly_frame.specs.Matrices.{RowsShow, bit_index}
use Rattle.poly_frame.specs.FrameTable.{limit_at, shut_at}
use Rattle.poly_frame.proofs.Steps.{base_leave, base_pick, open_pick, tally_put, most_pick}

pub has_in : (v : View) (p : ℕ) (i : Item) → has_item v p i ≡ true → In i (items v p)
has_in v p i h = let r = any_in (λ j. same_item j i) (items v p) h in subst (λ k. In k (items v p)) (same_item_is r.0 i r.2) r.1

pub in_has : (v : View) (p : ℕ) (i : Item) → In i (items v p) → has_item v p i ≡ true
in_has v p i k = any_from (λ j. same_item j i) (items v p) i k (same_item_self i)

pub open_base : (v : View) (A : List Atom) (q : ℕ) → open_in v A q ≡ true → mem (base v A) q ≡ false
open_base v A q o = not-true _ (and_parts (not (mem (base v A) q)) (not (ruled_out v A q)) o).0

and_yes : (b : Bool) → (b && true) ≡ b
and_yes true = refl
and_yes false = refl

pub others_all : (v : View) (xs : List ℕ) (q : ℕ) (i : Item) → mem xs q ≡ false → others v xs q i ≡ count v xs i
others_all v [] q i m = refl
others_all v (x ∷ xs) q i m =
    let e = or_parts (eqb x q) (mem xs q) m in
    ap (λ b. one (has_item v x i && not b) + others v xs q i) e.0 ∙ ap (λ n. one (has_item v x i && true) + n) (others_all v xs q i e.1) ∙ ap (λ b. one b + count v xs i) (and_yes (has_item v x i))

cell_in : (a : Placement) (c : Spot) → In (Cell c) (items_of (Some a)) → In c a.cells
cell_in a c (inl e) = absurd (true≢false (ap is_piece e))
cell_in a c (inr k) = let s = map_in (λ d. Cell d) a.cells (Cell c) k in let e : s.0 ≡ c = cc s.2 in subst (λ d. In d a.cells) e s.1

pub shared : (o u : Option Placement) → share_cell o u ≡ true → (c : Spot) × In (Cell c) (items_of o) × In (Cell c) (items_of u)
shared None u h = absurd (true≢false (sym h))
shared (Some a) None h = absurd (true≢false (sym h))
shared (Some a) (Some b) h =
    let r = any_in (λ c. has_cell b.cells c) a.cells h in
    let s = any_in (λ d. spot_eq d r.0) b.cells r.2 in
    (r.0, inr (in_map (λ d. Cell d) a.cells r.0 r.1), inr (in_map (λ d. Cell d) b.cells r.0 (subst (λ d. In d b.cells) (same_spot_is s.0 r.0 s.2) s.1)))

pub sharing : (o u : Option Placement) (c : Spot) → In (Cell c) (items_of o) → In (Cell c) (items_of u) → share_cell o u ≡ true
sharing None u c h k = absurd h
sharing (Some a) None c h k = absurd k
sharing (Some a) (Some b) c h k = any_from (λ d. has_cell b.cells d) a.cells c (cell_in a c h) (any_from (λ d. spot_eq d c) b.cells c (cell_in b c k) (spot_equiv.refl c))

sharing_item : (v : View) (q p : ℕ) (i : Item) → is_piece i ≡ false → In i (items v q) → In i (items v p) → share_cell (slice_get v.placements q) (slice_get v.placements p) ≡ true
sharing_item v q p (Cell c) n h k = sharing (slice_get v.placements q) (slice_get v.placements p) c h k
sharing_item v q p (Piece m) n h k = absurd (true≢false n)

-- with one more member that has the item, no other placement that has it is open
abbrev pub shuts : View → List Atom → Item → Bool
shuts v A i = not (is_piece i) || leb (most_at v A i) (count v (base v A) i + 1)

and_no : (b : Bool) → false ≡ (b && false)
and_no true = refl
and_no false = refl

and_first : (a b c : Bool) → a ≡ false → (a && b) ≡ (a && c)
and_first true b c e = absurd (true≢false e)
and_first false b c e = refl

both_closed : (a b c : Bool) → (a || b) ≡ c → (not a && not b) ≡ not c
both_closed true b c e = ap not e
both_closed false b c e = ap not e

module _ (v : View) (A : List Atom) (p q : ℕ) (m : mem (base v A) p ≡ false) (n : eqb p q ≡ false) where
  closed_by : mem (base v A) q ≡ false → (conflicts v q p || list_any (λ i. has_item v p i && leb (most_at v A i) (others v (base v A) q i + 1)) (items v q)) ≡ list_any (λ i. has_item v q i && shuts v A i) (items v p)
  closed_by mq = same_truth _ _
      (λ e. elim (or_cases (conflicts v q p) _ e) [
        | inl c ↦
            let s = shared (slice_get v.placements q) (slice_get v.placements p) (and_parts (not (eqb q p)) _ c).1 in
            any_from (λ i. has_item v q i && shuts v A i) (items v p) (Cell s.0) s.2 (and_from _ _ (in_has v q (Cell s.0) s.1) refl)
        | inr f ↦
            let r = any_in (λ i. has_item v p i && leb (most_at v A i) (others v (base v A) q i + 1)) (items v q) f in
            let rs = and_parts (has_item v p r.0) _ r.2 in
            any_from (λ i. has_item v q i && shuts v A i) (items v p) r.0 (has_in v p r.0 rs.0)
            (and_from _ _ (in_has v q r.0 r.1) (or_right (not (is_piece r.0)) _ (subst (λ k. leb (most_at v A r.0) (k + 1) ≡ true) (others_all v (base v A) q r.0 mq) rs.1)))
      ])
      (λ e.
      let r = any_in (λ i. has_item v q i && shuts v A i) (items v p) e in
      let rs = and_parts (has_item v q r.0) (shuts v A r.0) r.2 in
      elim (or_cases (not (is_piece r.0)) _ rs.1) [
        | inl c ↦ or_left _ _ (and_from _ _ (not_from_false _ (ne_eqb q p (λ x. both_ways (eqb p q) n (eq-eqb p q (sym x))))) (sharing_item v q p r.0 (not-true _ c) (has_in v q r.0 rs.0) r.1))
        | inr f ↦ or_right (conflicts v q p) _ (any_from (λ i. has_item v p i && leb (most_at v A i) (others v (base v A) q i + 1)) (items v q) r.0 (has_in v q r.0 rs.0)
            (and_from _ _ (in_has v p r.0 r.1) (subst (λ k. leb (most_at v A r.0) (k + 1) ≡ true) (sym (others_all v (base v A) q r.0 mq)) f)))
      ])

  -- taking p, which is not in the base, closes an open placement q other than p exactly if q has an item of p that one
  -- more member shuts
  pub pick_open : open_in v (A ++ Has p ∷ []) q ≡ (open_in v A q && not (list_any (λ i. has_item v q i && shuts v A i) (items v p)))
  pick_open = open_pick v A p q m n ∙ (elim (cases_Bool (open_in v A q)) [
    | inl o ↦ ap (λ b. open_in v A q && b) (both_closed _ _ _ (closed_by (open_base v A q o)))
    | inr c ↦ and_first _ _ _ c
  ])

-- a placement is not open once it is taken
pub pick_self : (v : View) (A : List Atom) (p : ℕ) → open_in v (A ++ Has p ∷ []) p ≡ false
pick_self v A p = false_from_ne_true _ (λ o. both_ways (mem (base v (A ++ Has p ∷ [])) p) (open_base v (A ++ Has p ∷ []) p o) (in_mem _ p (subst (λ xs. In p xs) (sym (base_pick v A p)) (in_put_self p (base v A)))))

-- taking a member again leaves the base as it is
pub base_again : (v : View) (A : List Atom) (p : ℕ) → mem (base v A) p ≡ true → base v (A ++ Has p ∷ []) ≡ base v A
base_again v A p m = base_pick v A p ∙ ascending_same (put p (base v A)) (base v A) (put_up p (base v A) (base_up v A)) (base_up v A)
    (λ x i. elim (put_in p (base v A) x i) [ inl e ↦ subst (λ y. In y (base v A)) e (mem_in (base v A) p m) | inr j ↦ j ])
    (λ x i. in_put p (base v A) x i)

-- taking a member again does not change what is open
pub open_again : (v : View) (A : List Atom) (p q : ℕ) → mem (base v A) p ≡ true → open_in v (A ++ Has p ∷ []) q ≡ open_in v A q
open_again v A p q m =
    let b = base_again v A p m in
    let full = any_by (λ i. leb (most_at v (A ++ Has p ∷ []) i) (others v (base v (A ++ Has p ∷ [])) q i)) (λ i. leb (most_at v A i) (others v (base v A) q i)) (items v q)
    (λ i. ap (λ u. leb u (others v (base v (A ++ Has p ∷ [])) q i)) (most_pick v A p i) ∙ ap (λ xs. leb (most_at v A i) (others v xs q i)) b) in
    let named : list_any (λ a. lacks a q) (A ++ Has p ∷ []) ≡ list_any (λ a. lacks a q) A = any_append (λ a. lacks a q) A (Has p ∷ []) ∙ or_none (list_any (λ a. lacks a q) A) in
    ap (λ xs. not (mem xs q) && not ((list_any (λ a. lacks a q) (A ++ Has p ∷ []) || list_any (λ r. conflicts v q r) xs) || list_any (λ i. leb (most_at v (A ++ Has p ∷ []) i) (others v (base v (A ++ Has p ∷ [])) q i)) (items v q))) b
    ∙ ap (λ x. not (mem (base v A) q) && not ((list_any (λ a. lacks a q) (A ++ Has p ∷ []) || list_any (λ r. conflicts v q r) (base v A)) || x)) full
    ∙ ap (λ x. not (mem (base v A) q) && not ((x || list_any (λ r. conflicts v q r) (base v A)) || list_any (λ i. leb (most_at v A i) (others v (base v A) q i)) (items v q))) named
  where
    any_by : (f g : Item → Bool) (is : List Item) → ((i : Item) → f i ≡ g i) → list_any f is ≡ list_any g is
    any_by f g [] e = refl
    any_by f g (i ∷ is) e = ap (λ b. b || list_any f is) (e i) ∙ ap (λ b. g i || b) (any_by f g is e)

    or_none : (b : Bool) → (b || false) ≡ b
    or_none true = refl
    or_none false = refl

pub count_pick : (v : View) (A : List Atom) (p : ℕ) (i : Item) → mem (base v A) p ≡ false → count v (base v (A ++ Has p ∷ [])) i ≡ count v (base v A) i + one (has_item v p i)
count_pick v A p i m = ap (λ xs. count v xs i) (base_pick v A p) ∙ tally_put (λ q. has_item v q i) p (base v A) m

pub count_leave : (v : View) (A : List Atom) (p : ℕ) (i : Item) → count v (base v (A ++ Lacks p ∷ [])) i ≡ count v (base v A) i
count_leave v A p i = ap (λ xs. count v (put_all xs (put_all v.pins [])) i) (base_leave v A p)

pub column_of : (bs : List Bound) (i : Item) → list_any (λ b. same_item b.item i) bs ≡ true → (b : ℕ) × (b < length bs) × (item_at bs b ≡ i)
column_of [] i h = absurd (true≢false (sym h))
column_of (x ∷ bs) i h = elim (or_cases (same_item x.item i) (list_any (λ b. same_item b.item i) bs) h) [
  | inl e ↦ (zero, omega arith, same_item_is x.item i e)
  | inr e ↦ let r = column_of bs i e in let l : suc r.0 < length (x ∷ bs) = omega (arith, r.1) in (suc r.0, l, r.2)
]

pub times_some : (xs : List ℕ) (b : ℕ) → In b xs → 1 ≤ times xs b
times_some [] b i = absurd i
times_some (x ∷ xs) b (inl e) = omega (arith, ap one (eq-eqb x b e))
times_some (x ∷ xs) b (inr i) = omega (arith, times_some xs b i)

pub some_times : (xs : List ℕ) (b : ℕ) → 1 ≤ times xs b → In b xs
some_times [] b h = absurd (omega arith)
some_times (x ∷ xs) b h = elim (cases_eq x b) [ inl e ↦ inl e | inr n ↦ inr (some_times xs b (omega (arith, ap one (ne_eqb x b n)))) ]

pub low_in : (n : ℕ) (xs : List ℕ) (b : ℕ) → list_all (λ b. ltb b n) xs ≡ true → In b xs → b < n
low_in n [] b l i = absurd i
low_in n (x ∷ xs) b l (inl e) = let h = ltb-true x n (and_parts (ltb x n) (list_all (λ b. ltb b n) xs) l).0 in subst (λ y. y < n) e h
low_in n (x ∷ xs) b l (inr i) = low_in n xs b (and_parts (ltb x n) (list_all (λ b. ltb b n) xs) l).1 i

pub limit_cases : (i : Item) (u h : ℕ) → leb (limit_at i u) h ≡ (not (is_piece i) || leb u h)
limit_cases (Cell c) u h = le-leb 0 h (omega arith)
limit_cases (Piece n) u h = refl

pub one_true : (b : Bool) → 1 ≤ one b → b ≡ true
one_true true h = refl
one_true false h = absurd (omega arith)

-- the indices of p's items tell whether q has an item of p that one more member shuts
pub indices_say : (v : View) (A : List Atom) (p q j w : ℕ) (ns rows limits have2 rs : List ℕ) → WellNamed v → In q v.live → Noted v.bounds (items v p) rs → RowsShow v ns w rows → j < length ns → get_or ns j 0 ≡ q →
    ((b : ℕ) → b < length v.bounds → get_or limits b 0 ≡ limit_at (item_of v b) (most_at v A (item_of v b))) →
    ((b : ℕ) → b < length v.bounds → get_or have2 b 0 ≡ count v (base v A) (item_of v b) + times rs b) →
    list_any (λ b. leb (get_or limits b 0) (get_or have2 b 0) && has_bit rows (bit_index w b j)) rs ≡ list_any (λ i. has_item v q i && shuts v A i) (items v p)
indices_say v A p q j w ns rows limits have2 rs well live noted shown h e lim counts = same_truth _ _
    (λ t.
    let r = any_in (λ b. leb (get_or limits b 0) (get_or have2 b 0) && has_bit rows (bit_index w b j)) rs t in
    let b = r.0 in
    let l = low_in (length v.bounds) rs r.0 noted.low r.1 in
    let rs2 = and_parts (leb (get_or limits r.0 0) (get_or have2 r.0 0)) _ r.2 in
    let has : has_item v p (item_of v r.0) ≡ true = one_true _ (omega (arith, times_some rs r.0 r.1, noted.once r.0 l)) in
    let one : times rs r.0 ≡ 1 = noted.once r.0 l ∙ ap one has in
    any_from (λ i. has_item v q i && shuts v A i) (items v p) (item_of v r.0) (has_in v p _ has)
    (and_from _ _ (ap (λ n. has_item v n (item_of v r.0)) (sym e) ∙ sym (shown r.0 j l h) ∙ rs2.1)
    (sym (limit_cases (item_of v r.0) (most_at v A (item_of v r.0)) (count v (base v A) (item_of v r.0) + 1))
    ∙ ap (λ n. leb n (count v (base v A) (item_of v r.0) + 1)) (sym (lim r.0 l)) ∙ ap (λ n. leb (get_or limits r.0 0) n) (sym (counts r.0 l ∙ ap (λ n. count v (base v A) (item_of v r.0) + n) one)) ∙ rs2.0)))
    (λ t.
    let r = any_in (λ i. has_item v q i && shuts v A i) (items v p) t in
    let rs2 = and_parts (has_item v q r.0) (shuts v A r.0) r.2 in
    let b = column_of v.bounds r.0 (listed_item v well q live r.0 rs2.0) in
    let has : has_item v p (item_of v b.0) ≡ true = ap (λ i. has_item v p i) b.2 ∙ in_has v p r.0 r.1 in
    let one : times rs b.0 ≡ 1 = noted.once b.0 b.1 ∙ ap one has in
    any_from (λ b. leb (get_or limits b 0) (get_or have2 b 0) && has_bit rows (bit_index w b j)) rs b.0 (some_times rs b.0 (omega (arith, one)))
    (and_from _ _
    (ap (λ n. leb n (get_or have2 b.0 0)) (lim b.0 b.1) ∙ ap (λ n. leb (limit_at (item_of v b.0) (most_at v A (item_of v b.0))) n) (counts b.0 b.1 ∙ ap (λ n. count v (base v A) (item_of v b.0) + n) one)
    ∙ limit_cases (item_of v b.0) (most_at v A (item_of v b.0)) (count v (base v A) (item_of v b.0) + 1) ∙ ap (λ i. shuts v A i) b.2 ∙ rs2.1)
    (shown b.0 j b.1 h ∙ ap (λ n. has_item v n (item_of v b.0)) e ∙ ap (λ i. has_item v q i) b.2 ∙ rs2.0)))

-- the members of the base that have the item close all other placements that have it
abbrev pub is_shut : View → List Atom → Item → Bool
is_shut v A i = shut_at i (most_at v A i) (count v (base v A) i)

no_conflict : (v : View) (A : List Atom) (q : ℕ) → mem (base v A) q ≡ false → (list_any (λ r. conflicts v q r) (base v A) || list_any (λ i. leb (most_at v A i) (others v (base v A) q i)) (items v q)) ≡ list_any (is_shut v A) (items v q)
no_conflict v A q m = same_truth _ _
    (λ e. elim (or_cases (list_any (λ r. conflicts v q r) (base v A)) _ e) [
      | inl c ↦
          let r = any_in (λ r. conflicts v q r) (base v A) c in
          let s = shared (slice_get v.placements q) (slice_get v.placements r.0) (and_parts (not (eqb q r.0)) _ r.2).1 in
          any_from (is_shut v A) (items v q) (Cell s.0) s.1 (or_right (leb (most_at v A (Cell s.0)) (count v (base v A) (Cell s.0))) _ (and_from true _ refl (counted (λ x. has_item v x (Cell s.0)) (base v A) r.0 r.1 (in_has v r.0 (Cell s.0) s.2))))
      | inr f ↦
          let r = any_in (λ i. leb (most_at v A i) (others v (base v A) q i)) (items v q) f in
          any_from (is_shut v A) (items v q) r.0 r.1 (or_left _ _ (subst (λ k. leb (most_at v A r.0) k ≡ true) (others_all v (base v A) q r.0 m) r.2))
    ])
    (λ e.
    let r = any_in (is_shut v A) (items v q) e in
    elim (or_cases (leb (most_at v A r.0) (count v (base v A) r.0)) _ r.2) [
      | inl f ↦ or_right (list_any (λ r. conflicts v q r) (base v A)) _ (any_from (λ i. leb (most_at v A i) (others v (base v A) q i)) (items v q) r.0 r.1 (subst (λ k. leb (most_at v A r.0) k ≡ true) (sym (others_all v (base v A) q r.0 m)) f))
      | inr c ↦
          let cs = and_parts (not (is_piece r.0)) _ c in
          let x = member (λ x. has_item v x r.0) (base v A) (ltb-true 0 _ cs.1) in
          or_left _ _ (any_from (λ r. conflicts v q r) (base v A) x.0 x.1
          (and_from _ _ (not_from_false _ (ne_eqb q x.0 (λ y. both_ways (mem (base v A) q) m (subst (λ z. mem (base v A) z ≡ true) (sym y) (in_mem _ x.0 x.1)))))
          (sharing_item v q x.0 r.0 (not-true _ cs.0) r.1 (has_in v x.0 r.0 x.2))))
    ])
  where
    counted : (f : ℕ → Bool) (xs : List ℕ) (x : ℕ) → In x xs → f x ≡ true → ltb 0 (tally f xs) ≡ true
    counted f [] x i h = absurd i
    counted f (y ∷ xs) x (inl e) h = lt-ltb 0 _ (omega (arith, ap one (ap f e ∙ h)))
    counted f (y ∷ xs) x (inr i) h = lt-ltb 0 _ (omega (arith, ltb-true 0 _ (counted f xs x i h)))

    member : (f : ℕ → Bool) (xs : List ℕ) → 0 < tally f xs → (x : ℕ) × In x xs × (f x ≡ true)
    member f [] h = absurd (omega arith)
    member f (y ∷ xs) h = elim (cases_Bool (f y)) [
      | inl e ↦ (y, inl refl, e)
      | inr n ↦ let r = member f xs (omega (arith, ap one n)) in (r.0, inr r.1, r.2)
    ]

free_at : (m l c f s : Bool) → (m ≡ false → (c || f) ≡ s) → (not m && not ((l || c) || f)) ≡ (not s && (not m && not l))
free_at true l c f s h = and_no (not s)
free_at false true c f s h = and_no (not s)
free_at false false c f s h = ap not (h refl) ∙ sym (and_yes (not s))

-- a placement is open exactly if none of its items is shut, it is not a member, and no atom lacks it
pub open_is_free : (v : View) (A : List Atom) (q : ℕ) → open_in v A q ≡ (not (list_any (is_shut v A) (items v q)) && (not (mem (base v A) q) && not (list_any (λ a. lacks a q) A)))
open_is_free v A q = free_at (mem (base v A) q) (list_any (λ a. lacks a q) A) (list_any (λ r. conflicts v q r) (base v A)) (list_any (λ i. leb (most_at v A i) (others v (base v A) q i)) (items v q)) (list_any (is_shut v A) (items v q)) (no_conflict v A q)
