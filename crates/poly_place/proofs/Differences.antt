-- The differences between two designs, by their lists.
use Rattle.std.proofs.Common.{Bool, List, None, Option, Some, [], ap, arith, cond, false, if◌then◌else◌, inl, inr, length, map, not, refl, slice_get, subst, sym, true, ℕ, ◌&&◌, ◌<◌, ◌∙◌, ◌∷◌, ◌≡◌, ◌≢◌, ◌↔◌}
use Rattle.std.specs.Prelude.{filter, nat_lt}
use Rattle.std.specs.List.{AllPairs, Contains, cons_option, filter_map, list_all, list_any}
use Rattle.std.specs.Map.{keys_of}
use Rattle.std.specs.Ordering.{is_lt}
use Rattle.std.specs.declared.cmp.Ordering.{Ordering}
use Rattle.std.specs.declared.cmp.Ordering.TheVariants.{Equal, Greater, Less}
use Rattle.std.specs.Cmp.{tied_itself}
use Rattle.std.proofs.lemmas.Bool.{and_from, and_parts, both_ways, lt-ltb, ltb-true, not-true, not_from_false}
use Rattle.poly_shape.specs.Order.{IsAscending}
use Rattle.poly_design.specs.Layout.{Layout}
use Rattle.poly_design.specs.Listed.{IsListOf}
use Rattle.poly_design.specs.Name.{name_cmp}
use Rattle.poly_design.specs.declared.placement.Placement.{Placement}
use Rattle.poly_design.specs.declared.spec.Spec.{Spec}
use Rattle.poly_tiling.specs.declared.bound.Bound.{Bound}
use Rattle.poly_tiling.specs.declared.item.Item.{Item}
use Rattle.poly_tiling.specs.declared.item.Item.TheVariants.{Cell, Piece}
use Rattle.poly_tiling.specs.Lists.{mem}
use Rattle.poly_tiling.specs.Names.{below, in_order, item_cmp, items_ascend}
use Rattle.poly_tiling.specs.Puzzle.{View, bound_in, same_item}
use Rattle.poly_tiling.specs.Shows.{IsNamed, cell_bound, given, item_bounds, piece_bound}
use Rattle.poly_tiling.specs.Tilings.{bounds_of}
use Rattle.poly_tiling.proofs.Bounded.{shown_bounds}
use Rattle.poly_tiling.proofs.Contained.{contains_in, in_contains, one_place, pairs_cons, pairs_none}
use Rattle.poly_tiling.proofs.Lists.{In, all_from, all_in, any_from, any_in, filter_in, in_append_cases, in_append_right, in_filter, in_map, in_mem, map_in, mem_in}
use Rattle.poly_tiling.proofs.Searched.{bound_at, item_total}
use Rattle.poly_tiling.proofs.Tilings.{bound_none, same_item_is, same_item_self}
use Rattle.poly_place.specs.Delta.{AreNumbersFor, LeastRises, MostFalls}
use Rattle.poly_place.specs.Falls.{falls, falls_at}

-- ---- numbers

in_order_at : (v : View) (f : ℕ → Bool) (n : ℕ) (ns : List ℕ) → list_all (λ m. below v n m) ns ≡ true → in_order v (filter f ns) ≡ true → (t : Bool) → in_order v (cond t (n ∷ filter f ns) (filter f ns)) ≡ true
in_order_at v f n ns first ih true = and_from _ _ (all_from (λ m. below v n m) (filter f ns) (λ m i. all_in (λ m. below v n m) ns first m (filter_in f ns m i).0)) ih
in_order_at v f n ns first ih false = ih

pub in_order_filter : (v : View) (f : ℕ → Bool) (ns : List ℕ) → in_order v ns ≡ true → in_order v (filter f ns) ≡ true
in_order_filter v f [] up = refl
in_order_filter v f (n ∷ ns) up =
    let parts = and_parts (list_all (λ m. below v n m) ns) (in_order v ns) up in
    in_order_at v f n ns parts.0 (in_order_filter v f ns parts.1) (f n)

-- if xs names what satisfies P, and ys names what satisfies Q, then the numbers that xs has and ys lacks name the placements
-- that satisfy P and not Q
pub others : (v : View) → AllPairs (λ x y. x ≢ y) v.placements → (xs ys : List ℕ) (P Q : Placement → Type 0) → ((p : Placement) → IsNamed v xs p ↔ P p) → ((p : Placement) → IsNamed v ys p ↔ Q p)
    → given v xs ≡ true → in_order v xs ≡ true → AreNumbersFor v (λ p. P p × (¬ Q p)) (filter (λ n. not (mem ys n)) xs)
others v apart xs ys P Q isP isQ low up =
    let f : ℕ → Bool = λ n. not (mem ys n) in
    record {
      given_out = all_from (λ n. nat_lt n (length v.placements)) (filter f xs) (λ n i. all_in (λ n. nat_lt n (length v.placements)) xs low n (filter_in f xs n i).0);
      up = in_order_filter v f xs up;
      exact = λ p. (
        λ h. let r = filter_in f xs h.number (contains_in (filter f xs) h.number h.stands) in (
          (isP p).0 (record { number = h.number; stands = in_contains xs h.number r.0; names = h.names }),
          λ q. let o = (isQ p).1 q in
              let same : o.number ≡ h.number = one_place v.placements apart o.number h.number p o.names h.names in
              both_ways (mem ys h.number) (not-true (mem ys h.number) r.1) (subst (λ n. mem ys n ≡ true) same (in_mem ys o.number (contains_in ys o.number o.stands))),
        ),
        λ h. let o = (isP p).1 h.0 in record {
          number = o.number;
          stands = in_contains (filter f xs) o.number (in_filter f xs o.number (contains_in xs o.number o.stands) (absent v ys Q isQ p h.1 o.number o.names (mem ys o.number) refl));
          names = o.names;
        },
      );
    }
  where
    absent : (v : View) (ys : List ℕ) (Q : Placement → Type 0) → ((p : Placement) → IsNamed v ys p ↔ Q p) → (p : Placement) → (Q p → ⊥) → (n : ℕ) → slice_get v.placements n ≡ Some p → (b : Bool) → mem ys n ≡ b → not (mem ys n) ≡ true
    absent v ys Q isQ p lacks n at true e = absurd (lacks ((isQ p).0 (record { number = n; stands = in_contains ys n (mem_in ys n e); names = at })))
    absent v ys Q isQ p lacks n at false e = not_from_false (mem ys n) e

-- ---- items

lt_less : (o : Ordering) → is_lt o ≡ true → o ≡ Less
lt_less Less h = refl
lt_less Equal h = cc
lt_less Greater h = cc

less_later : (b : Bound) (bs : List Bound) → items_ascend (b ∷ bs) ≡ true → (c : Bound) → In c bs → item_cmp b.item c.item ≡ Less
less_later b bs up c i = lt_less (item_cmp b.item c.item) (all_in (λ c. is_lt (item_cmp b.item c.item)) bs (and_parts (list_all (λ c. is_lt (item_cmp b.item c.item)) bs) (items_ascend bs) up).0 c i)

rest_up : (b : Bound) (bs : List Bound) → items_ascend (b ∷ bs) ≡ true → items_ascend bs ≡ true
rest_up b bs up = (and_parts (list_all (λ c. is_lt (item_cmp b.item c.item)) bs) (items_ascend bs) up).1

abbrev item_of : Bound → Item
item_of b = b.item

risen_at : (f : Bound → Bool) (b : Bound) (bs : List Bound) → items_ascend (b ∷ bs) ≡ true → IsAscending item_cmp (map item_of (filter f bs)) → (t : Bool) → IsAscending item_cmp (map item_of (cond t (b ∷ filter f bs) (filter f bs)))
risen_at f b bs up ih true = pairs_cons (λ i j. item_cmp i j ≡ Less) b.item (map item_of (filter f bs))
    (λ i h. let r = map_in item_of (filter f bs) i h in subst (λ j. item_cmp b.item j ≡ Less) r.2 (less_later b bs up r.0 (filter_in f bs r.0 r.1).0)) ih
risen_at f b bs up ih false = ih

pub risen_up : (f : Bound → Bool) (bs : List Bound) → items_ascend bs ≡ true → IsAscending item_cmp (map item_of (filter f bs))
risen_up f [] up = pairs_none (λ i j. item_cmp i j ≡ Less)
risen_up f (b ∷ bs) up = risen_at f b bs up (risen_up f bs (rest_up b bs up)) (f b)

pub bound_of_in : (bs : List Bound) → items_ascend bs ≡ true → (b : Bound) → In b bs → (f : Bound → ℕ) → bound_in bs b.item f ≡ f b
bound_of_in bs up b i f = let k = in_contains bs b i in bound_at bs b.item f k.0 b up k.1 (ap (λ c. item_cmp c.item b.item) k.2 ∙ tied_itself item_total b.item) ∙ ap f k.2

pub least_of : (d : Layout) (i : Item) → bound_in (item_bounds d) i (λ b. b.least) ≡ (bounds_of d i).least
least_of d i = shown_bounds d (λ x. x.least) refl i

pub most_of : (d : Layout) (i : Item) → bound_in (item_bounds d) i (λ b. b.most) ≡ (bounds_of d i).most
most_of d i = shown_bounds d (λ x. x.most) refl i

pub listed_item : (bs : List Bound) (i : Item) (f : Bound → ℕ) → 0 < bound_in bs i f → (t : Bool) → list_any (λ b. same_item b.item i) bs ≡ t → (b : Bound) × In b bs × (b.item ≡ i)
listed_item bs i f pos true h = let r = any_in (λ b. same_item b.item i) bs h in (r.0, r.1, same_item_is r.0.item i r.2)
listed_item bs i f pos false h = absurd (omega (arith, pos, bound_none bs i f h))

pub risen_for : (d e : Layout) → items_ascend (item_bounds e) ≡ true →
    IsListOf item_cmp (LeastRises d e) (map (λ b. b.item) (filter (λ b. nat_lt (bound_in (item_bounds d) b.item (λ c. c.least)) b.least) (item_bounds e)))
risen_for d e up =
    let bs : List Bound = item_bounds e in
    let test : Bound → Bool = λ b. nat_lt (bound_in (item_bounds d) b.item (λ c. c.least)) b.least in
    record {
      ascending = risen_up test bs up;
      exact = λ i. (
        λ h. let r = map_in item_of (filter test bs) i (contains_in (map item_of (filter test bs)) i h) in
            let s = filter_in test bs r.0 r.1 in
            let lt = ltb-true (bound_in (item_bounds d) r.0.item (λ c. c.least)) r.0.least s.1 in
            let own = bound_of_in bs up r.0 s.0 (λ c. c.least) in
            let rises : (bounds_of d r.0.item).least < (bounds_of e r.0.item).least = omega (arith, lt, own, least_of d r.0.item, least_of e r.0.item) in
            subst (λ j. LeastRises d e j) r.2 rises,
        λ h. let r = listed_item bs i (λ c. c.least) (omega (arith, least_of e i, h)) (list_any (λ b. same_item b.item i) bs) refl in
            let rises : (bounds_of d r.0.item).least < (bounds_of e r.0.item).least = subst (λ j. LeastRises d e j) (sym r.2) h in
            let own = bound_of_in bs up r.0 r.1 (λ c. c.least) in
            let lt : bound_in (item_bounds d) r.0.item (λ c. c.least) < r.0.least = omega (arith, own, rises, least_of d r.0.item, least_of e r.0.item) in
            in_contains (map item_of (filter test bs)) i
            (subst (λ j. In j (map item_of (filter test bs))) r.2 (in_map item_of (filter test bs) r.0 (in_filter test bs r.0 r.1 (lt-ltb (bound_in (item_bounds d) r.0.item (λ c. c.least)) r.0.least lt)))),
      );
    }

-- ---- pieces

found_at : {X Y : Type 0} (h : X → Option Y) (xs : List X) (x : X) (y : Y) (o : Option Y) → h x ≡ o → (In y (filter_map h xs) → (z : X) × In z xs × (h z ≡ Some y)) → In y (cons_option o (filter_map h xs)) → (z : X) × In z (x ∷ xs) × (h z ≡ Some y)
found_at h xs x y None e ih i = let r = ih i in (r.0, inr r.1, r.2)
found_at h xs x y (Some w) e ih (inl same) = (x, inl refl, e ∙ ap Some same)
found_at h xs x y (Some w) e ih (inr i) = let r = ih i in (r.0, inr r.1, r.2)

filter_map_in : {X Y : Type 0} (h : X → Option Y) (xs : List X) (y : Y) → In y (filter_map h xs) → (z : X) × In z xs × (h z ≡ Some y)
filter_map_in h [] y i = absurd i
filter_map_in h (x ∷ xs) y i = found_at h xs x y (h x) refl (filter_map_in h xs y) i

in_cons : {Y : Type 0} (o : Option Y) (ys : List Y) (y : Y) → In y ys → In y (cons_option o ys)
in_cons None ys y i = i
in_cons (Some w) ys y i = inr i

in_filter_map : {X Y : Type 0} (h : X → Option Y) (xs : List X) (x : X) (y : Y) → In x xs → h x ≡ Some y → In y (filter_map h xs)
in_filter_map h [] x y i e = absurd i
in_filter_map h (z ∷ xs) x y (inl same) e = subst (λ o. In y (cons_option o (filter_map h xs))) (sym (ap h same ∙ e)) (inl refl)
in_filter_map h (z ∷ xs) x y (inr i) e = in_cons (h z) (filter_map h xs) y (in_filter_map h xs x y i e)

pub record Falls (to : List Bound) (i : Item) (m : ℕ) (y : List ℕ) : Type 0 where
  pub piece : i ≡ Piece y
  pub there : list_any (λ b. same_item b.item (Piece y)) to ≡ true
  pub lower : bound_in to (Piece y) (λ b. b.most) < m

falls_is_at : (to : List Bound) (n : List ℕ) (m : ℕ) (y : List ℕ) (a b : Bool) → list_any (λ b. same_item b.item (Piece n)) to ≡ a → nat_lt (bound_in to (Piece n) (λ b. b.most)) m ≡ b →
    (if (a && b) then Some n else None) ≡ Some y → Falls to (Piece n) m y
falls_is_at to n m y true true ha hb e =
    let same : n ≡ y = cc in
    record {
      piece = ap Piece same;
      there = subst (λ k. list_any (λ b. same_item b.item (Piece k)) to ≡ true) same ha;
      lower = subst (λ k. bound_in to (Piece k) (λ b. b.most) < m) same (ltb-true (bound_in to (Piece n) (λ b. b.most)) m hb);
    }
falls_is_at to n m y true false ha hb e = cc
falls_is_at to n m y false b ha hb e = cc

falls_is : (to : List Bound) (i : Item) (m : ℕ) (y : List ℕ) → falls_at to i m ≡ Some y → Falls to i m y
falls_is to (Cell c) m y e = cc
falls_is to (Piece n) m y e = falls_is_at to n m y (list_any (λ b. same_item b.item (Piece n)) to) (nat_lt (bound_in to (Piece n) (λ b. b.most)) m) refl refl e

pub falls_some : (to : List Bound) (i : Item) (m : ℕ) (y : List ℕ) → Falls to i m y → falls_at to i m ≡ Some y
falls_some to i m y f =
    ap (λ j. falls_at to j m) f.piece
    ∙ ap (λ t. if (t && nat_lt (bound_in to (Piece y) (λ b. b.most)) m) then Some y else None) f.there
    ∙ ap (λ t. if t then Some y else None) (lt-ltb (bound_in to (Piece y) (λ b. b.most)) m f.lower)

falls_at_false : (y : List ℕ) (a b : Bool) → b ≡ false → (if (a && b) then Some y else None) ≡ None
falls_at_false y true b e = ap (λ t. if t then Some y else None) e
falls_at_false y false b e = refl

fallen_at : (h : Bound → Option (List ℕ)) → ((b : Bound) (y : List ℕ) → h b ≡ Some y → b.item ≡ Piece y) → (b : Bound) (bs : List Bound) → items_ascend (b ∷ bs) ≡ true → IsAscending name_cmp (filter_map h bs) →
    (o : Option (List ℕ)) → h b ≡ o → IsAscending name_cmp (cons_option o (filter_map h bs))
fallen_at h is b bs up ih None e = ih
fallen_at h is b bs up ih (Some n) e = pairs_cons (λ m k. name_cmp m k ≡ Less) n (filter_map h bs) (λ y i.
    let r = filter_map_in h bs y i in
    subst (λ j. item_cmp (Piece n) j ≡ Less) (is r.0 y r.2) (subst (λ j. item_cmp j r.0.item ≡ Less) (is b n e) (less_later b bs up r.0 r.1))) ih

fallen_up : (h : Bound → Option (List ℕ)) → ((b : Bound) (y : List ℕ) → h b ≡ Some y → b.item ≡ Piece y) → (bs : List Bound) → items_ascend bs ≡ true → IsAscending name_cmp (filter_map h bs)
fallen_up h is [] up = pairs_none (λ m k. name_cmp m k ≡ Less)
fallen_up h is (b ∷ bs) up = fallen_at h is b bs up (fallen_up h is bs (rest_up b bs up)) (h b) refl

pub piece_key : (d : Layout) (b : Bound) (y : List ℕ) → In b (item_bounds d) → b.item ≡ Piece y → Contains (keys_of d.pieces) y
piece_key d b y i e = elim (in_append_cases b (map cell_bound d.cells) (map piece_bound d.pieces) i) [
  | inl c ↦ let r = map_in cell_bound d.cells b c in let no : Cell r.0.0 ≡ Piece y = ap item_of r.2 ∙ e in cc
  | inr p ↦
      let r = map_in piece_bound d.pieces b p in
      let is : Piece r.0.0 ≡ Piece y = ap item_of r.2 ∙ e in
      let same : r.0.0 ≡ y = cc in
      subst (λ n. Contains (keys_of d.pieces) n) same (in_contains (keys_of d.pieces) r.0.0 (in_map (λ (x : List ℕ × Spec). x.0) d.pieces r.0 r.1))
]

pub key_piece : (d : Layout) (y : List ℕ) → Contains (keys_of d.pieces) y → (b : Bound) × In b (item_bounds d) × (b.item ≡ Piece y)
key_piece d y h =
    let r = map_in (λ (x : List ℕ × Spec). x.0) d.pieces y (contains_in (keys_of d.pieces) y h) in
    (piece_bound r.0, in_append_right (piece_bound r.0) (map cell_bound d.cells) (map piece_bound d.pieces) (in_map piece_bound d.pieces r.0 r.1), ap Piece r.2)

pub fallen_for : (d e : Layout) → items_ascend (item_bounds d) ≡ true → IsListOf name_cmp (MostFalls d e) (filter_map (falls (item_bounds e)) (item_bounds d))
fallen_for d e up =
    let h : Bound → Option (List ℕ) = falls (item_bounds e) in
    let bs : List Bound = item_bounds d in
    record {
      ascending = fallen_up h (λ b y is. (falls_is (item_bounds e) b.item b.most y is).piece) bs up;
      exact = λ y. (
        λ here. let r = filter_map_in h bs y (contains_in (filter_map h bs) y here) in
            let s = falls_is (item_bounds e) r.0.item r.0.most y r.2 in
            let t = any_in (λ b. same_item b.item (Piece y)) (item_bounds e) s.there in
            let own : bound_in bs (Piece y) (λ c. c.most) ≡ r.0.most = subst (λ i. bound_in bs i (λ c. c.most) ≡ r.0.most) s.piece (bound_of_in bs up r.0 r.1 (λ c. c.most)) in
            record {
              in_first = piece_key d r.0 y r.1 s.piece;
              in_second = piece_key e t.0 y t.1 (same_item_is t.0.item (Piece y) t.2);
              lower = omega (arith, s.lower, own, most_of d (Piece y), most_of e (Piece y));
            },
        λ m. let r = key_piece d y m.in_first in
            let t = key_piece e y m.in_second in
            let own : bound_in bs (Piece y) (λ c. c.most) ≡ r.0.most = subst (λ i. bound_in bs i (λ c. c.most) ≡ r.0.most) r.2 (bound_of_in bs up r.0 r.1 (λ c. c.most)) in
            let is : Falls (item_bounds e) r.0.item r.0.most y = record {
              piece = r.2;
              there = any_from (λ b. same_item b.item (Piece y)) (item_bounds e) t.0 t.1 (subst (λ i. same_item i (Piece y) ≡ true) (sym t.2) (same_item_self (Piece y)));
              lower = omega (arith, m.lower, own, most_of d (Piece y), most_of e (Piece y));
            } in
            in_contains (filter_map h bs) y (in_filter_map h bs r.0 y r.1 (falls_some (item_bounds e) r.0.item r.0.most y is)),
      );
    }
