-- The columns of a matrix: the items of each, and which are open.
use Rattle.std.specs.Arc.{arc_value}
use Rattle.std.specs.declared.sync.Arc.{Arc}
use Rattle.std.specs.Global.{Global}
use Rattle.std.proofs.Common.{Bool, List, None, Option, Some, [], ap, arith, drop, false, get_or, inl, inr, length, length-append, not, refl, suc, sym, subst, take, true, zero, ℕ, ◌&&◌, ◌++◌, ◌*◌, ◌+◌, ◌-◌, ◌<◌, ◌∙◌, ◌∷◌, ◌||◌, ◌≡◌, ◌≤◌}
use Rattle.std.specs.List.{filter, list_any}
use Rattle.std.proofs.Math.Seq.{drop-append_seam, get_or-append_seam}
use Rattle.std.proofs.lemmas.List.{drop-append-le, get_or_append_left, length-drop, take-append-le, take_all, take_more}
use Rattle.std.proofs.lemmas.Bool.{and_from, and_parts, cases_eq, cases_lt, or_cases, or_left, or_right}
use Rattle.poly_tiling.specs.Lists.{mem}
use Rattle.poly_tiling.specs.Names.{WellNamed}
use Rattle.poly_tiling.specs.Puzzle.{View, count, has_item, items}
use Rattle.poly_tiling.proofs.Lists.{any_append, any_from, any_in, mem_in, same_truth}
use Rattle.poly_tiling.proofs.Named.{listed_item}
use Rattle.poly_atom.specs.declared.atom.Atom.{Atom}
use Rattle.poly_atom.specs.Hopeless.{base, lacks}
use Rattle.poly_frame.specs.Open.{open_in, most_at}
use Rattle.poly_frame.specs.FrameItems.{Noted, item_of}
use Rattle.poly_frame.specs.FrameTable.{HaveShows, MostsShow, shut_at}
use Rattle.poly_frame.specs.Bits.{has_bit}
use Rattle.poly_frame.specs.Matrices.{HomesIn, HomesShow, ListShows, ListsTo, RowOf, StandsShow, any_below, column_items, list_at}
use Rattle.poly_frame.specs.declared.frame.matrix.Lists.{Lists}
use Rattle.poly_frame.specs.declared.frame.matrix.Matrix.{Matrix}
use Rattle.poly_frame.proofs.FrameSteps.{index_in, listed_at}
use Rattle.poly_frame.proofs.Walks.{mem_filter}
use Rattle.poly_frame.proofs.FramePicks.{has_in, in_has, is_shut, open_is_free, column_of}

-- a part of a list stays as the list grows
part_kept : (xs ys : List ℕ) (s e : ℕ) → s ≤ e → e ≤ length xs → take (e - s) (drop s (xs ++ ys)) ≡ take (e - s) (drop s xs)
part_kept xs ys s e h l = ap (λ zs. take (e - s) zs) (drop-append-le s xs ys (omega arith)) ∙ take-append-le (e - s) (drop s xs) ys (omega (arith, length-drop s xs))

part_new : (xs ys : List ℕ) (s e : ℕ) → s ≡ length xs → e ≡ length (xs ++ ys) → take (e - s) (drop s (xs ++ ys)) ≡ ys
part_new xs ys s e f g =
    let n : e - s ≡ length ys = omega (arith, length-append xs ys) in
    ap (λ k. take k (drop s (xs ++ ys))) n ∙ ap (λ k. take (length ys) (drop k (xs ++ ys))) f ∙ ap (λ zs. take (length ys) zs) (drop-append_seam xs ys) ∙ take_all (length ys) ys (omega arith)

module _ (v : View) (ns starts indices new : List ℕ) (k : ℕ) (L : ListsTo v ns starts indices k) (noted : Noted v.bounds (items v (get_or ns k 0)) new) (short : length new ≤ 17) where
  abbrev pub starts2 : List ℕ
  starts2 = starts ++ length (indices ++ new) ∷ []

  old_start : (j : ℕ) → j ≤ k → get_or starts2 j 0 ≡ get_or starts j 0
  old_start j h = get_or_append_left starts (length (indices ++ new) ∷ []) 0 j (omega (arith, L.len))

  new_start : get_or starts2 (k + 1) 0 ≡ length (indices ++ new)
  new_start = ap (λ n. get_or starts2 n 0) (sym L.len) ∙ get_or-append_seam starts (length (indices ++ new)) [] 0

  -- the list of one more number, appended to the others
  pub lists_more : ListsTo v ns starts2 (indices ++ new) (k + 1)
  lists_more = record {
    len = omega (arith, length-append starts (length (indices ++ new) ∷ []), L.len);
    last = new_start;
    each = λ j h. elim (cases_lt j k) [
      | inl l ↦
          let E = L.each j l in
          let s = old_start j (omega arith) in
          let e = old_start (j + 1) (omega arith) in
          let same : list_at starts2 (indices ++ new) j ≡ list_at starts indices j =
          ap (λ n. take (get_or starts2 (j + 1) 0 - n) (drop n (indices ++ new))) s ∙ ap (λ n. take (n - get_or starts j 0) (drop (get_or starts j 0) (indices ++ new))) e
          ∙ part_kept indices new (get_or starts j 0) (get_or starts (j + 1) 0) E.up E.end in
          record {
            up = omega (arith, s, e, E.up);
            end = omega (arith, e, E.end, length-append indices new);
            noted = subst (λ xs. Noted v.bounds (items v (get_or ns j 0)) xs) (sym same) E.noted;
            short = omega (arith, ap length same, E.short);
          }
      | inr l ↦
          let top : j ≡ k = omega arith in
          let s : get_or starts2 k 0 ≡ length indices = old_start k (omega arith) ∙ L.last in
          let same : list_at starts2 (indices ++ new) k ≡ new = part_new indices new (get_or starts2 k 0) (get_or starts2 (k + 1) 0) s new_start in
          subst (λ n. ListShows v (get_or ns n 0) starts2 (indices ++ new) n) (sym top) (record {
            up = omega (arith, s, new_start, length-append indices new);
            end = omega (arith, new_start);
            noted = subst (λ xs. Noted v.bounds (items v (get_or ns k 0)) xs) (sym same) noted;
            short = omega (arith, ap length same, short);
          })
    ];
  }

pub lists_none : (v : View) (ns starts indices : List ℕ) → starts ≡ 0 ∷ [] → indices ≡ [] → ListsTo v ns starts indices 0
lists_none v ns starts indices e f = record {
  len = ap length e;
  last = ap (λ xs. get_or xs 0 0) e ∙ sym (ap length f);
  each = λ j h. absurd (omega (arith, h));
}

-- a number that has a column has the one that `stands` says
pub stand_of : (ns stands : List ℕ) (p : ℕ) → StandsShow ns stands → mem ns p ≡ true → (p < length stands) × (get_or stands p 0 < length ns) × (get_or ns (get_or stands p 0) 0 ≡ p)
stand_of ns stands p s m =
    let w = index_in ns p m in
    let h = s w.0 w.1 in
    let at : get_or stands p 0 ≡ w.0 = ap (λ q. get_or stands q 0) (sym w.2) ∙ h.1 in
    (subst (λ q. q < length stands) w.2 h.0, subst (λ k. k < length ns) (sym at) w.1, ap (λ k. get_or ns k 0) at ∙ w.2)

-- `ListsTo` for equal lists
pub lists_as : (v : View) (ns s1 p1 s2 p2 : List ℕ) (k : ℕ) → s1 ≡ s2 → p1 ≡ p2 → ListsTo v ns s1 p1 k → ListsTo v ns s2 p2 k
lists_as v ns s1 p1 s2 p2 k e f L = subst (λ xs. ListsTo v ns xs p2 k) e (subst (λ xs. ListsTo v ns s1 xs k) f L)

-- if some number below n passes, here is one
pub below_any : (f : ℕ → Bool) (n : ℕ) → any_below f n ≡ true → (b : ℕ) × (b < n) × (f b ≡ true)
below_any f zero h = absurd cc
below_any f (suc n) h = elim (or_cases (any_below f n) (f n) h) [
  | inl e ↦ let r = below_any f n e in let l : r.0 < suc n = omega (arith, r.1) in (r.0, l, r.2)
  | inr e ↦ let l : n < suc n = omega arith in (n, l, e)
]

pub any_from_below : (f : ℕ → Bool) (n b : ℕ) → b < n → f b ≡ true → any_below f n ≡ true
any_from_below f zero b h e = absurd (omega arith)
any_from_below f (suc n) b h e = elim (cases_eq b n) [
  | inl s ↦ or_right (any_below f n) (f n) (ap f (sym s) ∙ e)
  | inr d ↦ or_left (any_below f n) (f n) (any_from_below f n b (omega arith) e)
]

below_more : (f : ℕ → Bool) (n : ℕ) → any_below f (n + 1) ≡ (any_below f n || f n)
below_more f n = let e : n + 1 ≡ suc n = omega arith in ap (λ m. any_below f m) e

and_more : (a b c : Bool) → ((a && not b) && not c) ≡ (a && not (b || c))
and_more true true c = refl
and_more true false c = refl
and_more false b c = refl

and_spared : (a b c : Bool) → c ≡ false → (a && not b) ≡ (a && not (b || c))
and_spared a b c e = sym (yes (a && not b)) ∙ ap (λ x. (a && not b) && not x) (sym e) ∙ and_more a b c
  where
    yes : (x : Bool) → (x && true) ≡ x
    yes true = refl
    yes false = refl

-- if all shut rows below n were taken out, and row n is shut and is taken out too, all shut rows up to n are out
pub shut_more : (f : ℕ → Bool) (old cur new r s : Bool) (n : ℕ) → cur ≡ (old && not (any_below f n)) → new ≡ (cur && not r) → f n ≡ (s && r) → s ≡ true → new ≡ (old && not (any_below f (n + 1)))
shut_more f old cur new r s n h e g y = e ∙ ap (λ b. b && not r) h ∙ and_more old (any_below f n) r ∙ ap (λ b. old && not (any_below f n || b)) (ap (λ b. b && r) (sym y) ∙ sym g) ∙ ap (λ b. old && not b) (sym (below_more f n))

pub shut_same : (f : ℕ → Bool) (old cur r s : Bool) (n : ℕ) → cur ≡ (old && not (any_below f n)) → f n ≡ (s && r) → s ≡ false → cur ≡ (old && not (any_below f (n + 1)))
shut_same f old cur r s n h g y = h ∙ and_spared old (any_below f n) (f n) (g ∙ ap (λ b. b && r) y) ∙ ap (λ b. old && not b) (sym (below_more f n))

pub shut_none : (f : ℕ → Bool) (old : Bool) → old ≡ (old && not (any_below f 0))
shut_none f true = refl
shut_none f false = refl

-- if the first k entries were taken out and entry k is taken out too, the first k + 1 are out
pub out_more : {X : Type 0} (f : X → Bool) (xs : List X) (k : ℕ) (d : X) (old cur new : Bool) → k < length xs → cur ≡ (old && not (list_any f (take k xs))) → new ≡ (cur && not (f (get_or xs k d))) → new ≡ (old && not (list_any f (take (k + 1) xs)))
out_more f xs k d old cur new h e g =
    g ∙ ap (λ b. b && not (f (get_or xs k d))) e ∙ and_more old (list_any f (take k xs)) (f (get_or xs k d))
    ∙ ap (λ b. old && not (list_any f (take k xs) || b)) (sym (or_false (f (get_or xs k d)))) ∙ ap (λ b. old && not b) (sym (any_append f (take k xs) (get_or xs k d ∷ [])))
    ∙ ap (λ ys. old && not (list_any f ys)) (sym (take_more xs k d h))
  where
    or_false : (b : Bool) → (b || false) ≡ b
    or_false true = refl
    or_false false = refl

-- a placement of the design has an item that is shut if and only if the row of some shut item has the placement
pub shut_says : (v : View) (A : List Atom) (q : ℕ) (us hs T : List ℕ) (g : ℕ → Bool) → WellNamed v → mem v.live q ≡ true → T ≡ base v A → MostsShow v A us → HaveShows v T hs →
    ((b : ℕ) → b < length v.bounds → g b ≡ (shut_at (item_of v b) (get_or us b 0) (get_or hs b 0) && has_item v q (item_of v b))) → any_below g (length v.bounds) ≡ list_any (is_shut v A) (items v q)
shut_says v A q us hs T g well live e mosts have says = same_truth _ _
    (λ t.
    let r = below_any g (length v.bounds) t in
    let two = and_parts (shut_at (item_of v r.0) (get_or us r.0 0) (get_or hs r.0 0)) _ (sym (says r.0 r.1) ∙ r.2) in
    any_from (is_shut v A) (items v q) (item_of v r.0) (has_in v q _ two.1) (sym (counts r.0 r.1) ∙ two.0))
    (λ t.
    let r = any_in (is_shut v A) (items v q) t in
    let w = column_of v.bounds r.0 (listed_item v well q (mem_in v.live q live) r.0 (in_has v q r.0 r.1)) in
    any_from_below g (length v.bounds) w.0 w.1 (says w.0 w.1 ∙ and_from _ _ (counts w.0 w.1 ∙ ap (λ i. is_shut v A i) w.2 ∙ r.2) (ap (λ i. has_item v q i) w.2 ∙ in_has v q r.0 r.1)))
  where
    counts : (b : ℕ) → b < length v.bounds → shut_at (item_of v b) (get_or us b 0) (get_or hs b 0) ≡ is_shut v A (item_of v b)
    counts b h = ap (λ n. shut_at (item_of v b) n (get_or hs b 0)) (mosts b h) ∙ ap (λ n. shut_at (item_of v b) (most_at v A (item_of v b)) n) (have b h ∙ ap (λ xs. count v xs (item_of v b)) e)

-- if what has a shut item, then what an atom lacks, and then the members are taken out, what is left is what is open
pub left_open : (v : View) (A : List Atom) (q : ℕ) (T : List ℕ) (full shut r1 r2 r3 : Bool) → T ≡ base v A → full ≡ true → shut ≡ list_any (is_shut v A) (items v q) → r1 ≡ (full && not shut) → r2 ≡ (r1 && not (list_any (λ a. lacks a q) A)) → r3 ≡ (r2 && not (mem T q)) → r3 ≡ open_in v A q
left_open v A q T full shut r1 r2 r3 e f s a b c =
    c ∙ ap (λ x. x && not (mem T q)) (b ∙ ap (λ x. x && not (list_any (λ a. lacks a q) A)) (a ∙ ap (λ x. x && not shut) f ∙ ap not s))
    ∙ ap (λ xs. (not (list_any (is_shut v A) (items v q)) && not (list_any (λ a. lacks a q) A)) && not (mem xs q)) e
    ∙ turn (not (list_any (is_shut v A) (items v q))) (not (list_any (λ a. lacks a q) A)) (not (mem (base v A) q)) ∙ sym (open_is_free v A q)
  where
    turn : (x y z : Bool) → ((x && y) && z) ≡ (x && (z && y))
    turn true true true = refl
    turn true true false = refl
    turn true false true = refl
    turn true false false = refl
    turn false y z = refl

-- a smaller matrix: its numbers are those whose bit is set
pub narrow_numbers : (f : ℕ → Bool) (p p2 : Matrix) (given given2 new : List ℕ) → p2 ≡ p → given2 ≡ given → RowOf f p given →
    ((f : ℕ → Bool) → ((j : ℕ) → j < length p2.numbers.items → f (get_or p2.numbers.items j 0) ≡ has_bit given2 j) → new ≡ filter f p2.numbers.items) → new ≡ filter f p.numbers.items
narrow_numbers f p p2 given given2 new e g R N =
    let M = subst (λ (m : Matrix). ((j : ℕ) → j < length m.numbers.items → f (get_or m.numbers.items j 0) ≡ has_bit given2 j) → new ≡ filter f m.numbers.items) e (N f) in
    M (λ j h. sym (R.inside j h) ∙ ap (λ ws. has_bit ws j) (sym g))

pub narrow_row : (f : ℕ → Bool) (ns : List ℕ) (m : Matrix) (row : List ℕ) (n : ℕ) → m.numbers.items ≡ filter f ns → n ≡ length m.numbers.items → ((j : ℕ) → j < n → has_bit row j ≡ true) → ((j : ℕ) → n ≤ j → j < 64 * m.width → has_bit row j ≡ false) → RowOf f m row
narrow_row f ns m row n e g inside past = record {
  inside = λ j h.
      let q = get_or m.numbers.items j 0 in
      let passes = and_parts (mem ns q) (f q) (sym (mem_filter f ns q) ∙ ap (λ xs. mem xs q) (sym e) ∙ listed_at m.numbers.items j h) in
      inside j (omega (arith, h, g)) ∙ sym passes.1;
  past = λ j h l. past j (omega (arith, h, g)) l;
}

pub narrow_all : (f : ℕ → Bool) (ns new : List ℕ) → new ≡ filter f ns → (q : ℕ) → mem ns q ≡ true → f q ≡ true → mem new q ≡ true
narrow_all f ns new e q m o = ap (λ xs. mem xs q) e ∙ mem_filter f ns q ∙ and_from _ _ m o

-- a list whose entries are those of a function, with one more of them
pub each_more : (xs ys : List ℕ) (x : ℕ) (f : ℕ → ℕ) (k : ℕ) → length xs ≡ k → ys ≡ xs ++ x ∷ [] → ((i : ℕ) → i < k → get_or xs i 0 ≡ f i) → x ≡ f k → (i : ℕ) → i < k + 1 → get_or ys i 0 ≡ f i
each_more xs ys x f k n e h g i l = elim (cases_lt i k) [
  | inl b ↦ ap (λ zs. get_or zs i 0) e ∙ get_or_append_left xs (x ∷ []) 0 i (omega (arith, n, b)) ∙ h i b
  | inr b ↦
      let top : i ≡ k = omega arith in
      let end : i ≡ length xs = omega (arith, top, n) in
      ap (λ zs. get_or zs i 0) e ∙ ap (λ j. get_or (xs ++ x ∷ []) j 0) end ∙ get_or-append_seam xs x [] 0 ∙ g ∙ ap f (sym top)
]

-- the lists of all columns: each column has the list of its own index
pub homes_all : (v : View) (ns homes starts indices : List ℕ) → ListsTo v ns starts indices (length ns) → length homes ≡ length ns → ((j : ℕ) → j < length ns → get_or homes j 0 ≡ j) → HomesIn v ns homes starts indices
homes_all v ns homes starts indices L n h = record {
  len = n;
  inside = λ j l. omega (arith, h j l, L.len);
  each = λ j l. subst (λ k. ListShows v (get_or ns j 0) starts indices k) (sym (h j l)) (L.each j l);
}

-- some of the columns, with the lists that they have among all of them
module _ (v : View) (whole stands homes : List ℕ) (S : StandsShow whole stands) (ns some : List ℕ) (n : length some ≡ length ns)
    (among : (p : ℕ) → mem ns p ≡ true → mem whole p ≡ true)
    (each : (i : ℕ) → i < length ns → get_or some i 0 ≡ get_or homes (get_or stands (get_or ns i 0) 0) 0) where
  stand : (i : ℕ) → i < length ns → (get_or stands (get_or ns i 0) 0 < length whole) × (get_or whole (get_or stands (get_or ns i 0) 0) 0 ≡ get_or ns i 0)
  stand i l = let s = stand_of whole stands (get_or ns i 0) S (among (get_or ns i 0) (listed_at ns i l)) in (s.1, s.2)

  homes_in : (starts indices : List ℕ) → HomesIn v whole homes starts indices → HomesIn v ns some starts indices
  homes_in starts indices H = record {
    len = n;
    inside = λ i l. omega (arith, each i l, H.inside (get_or stands (get_or ns i 0) 0) (stand i l).0);
    each = λ i l.
        let at = get_or stands (get_or ns i 0) 0 in
        subst (λ k. ListShows v (get_or ns i 0) starts indices k) (sym (each i l)) (subst (λ p. ListShows v p starts indices (get_or homes at 0)) (stand i l).1 (H.each at (stand i l).0));
  }

  none_among : (ps : List ℕ) → ((p : ℕ) → mem ps p ≡ true → mem whole p ≡ true) → length whole ≡ 0 → length ps ≡ 0
  none_among [] h e = refl
  none_among (p ∷ ps) h e = absurd (omega (arith, e, (index_in whole p (h p (listed_at (p ∷ ps) 0 (omega arith)))).1))

  pub homes_some : (lists : Option (Arc Lists Global)) → HomesShow v whole homes lists → HomesShow v ns some lists
  homes_some None H = let none = none_among ns among H.0 in (none, omega (arith, n, none))
  homes_some (Some a) H = homes_in (arc_value a).starts.items (arc_value a).indices.items H

pub homes_len : (v : View) (ns homes : List ℕ) (lists : Option (Arc Lists Global)) → HomesShow v ns homes lists → length homes ≡ length ns
homes_len v ns homes None H = omega (arith, H.0, H.1)
homes_len v ns homes (Some a) H = H.len

-- what the indices of a column's items are
pub record ColumnShows (v : View) (p : ℕ) (indices : List ℕ) : Type 0 where
  pub noted : Noted v.bounds (items v p) indices
  pub short : length indices ≤ 17

pub column_shows : (v : View) (ns homes : List ℕ) (lists : Option (Arc Lists Global)) → HomesShow v ns homes lists → (j : ℕ) → j < length ns → ColumnShows v (get_or ns j 0) (column_items lists homes j)
column_shows v ns homes None H j l = absurd (omega (arith, H.0, l))
column_shows v ns homes (Some a) H j l = record { noted = (H.each j l).noted; short = (H.each j l).short }
