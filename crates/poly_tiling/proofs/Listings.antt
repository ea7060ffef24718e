-- The tilings of a view, in order, are the tilings of the design that the view shows.
use Rattle.std.proofs.Common.{Bool, List, None, Option, Some, [], ap, arith, cond, eqb, false, get_or, inl, inr, length, map, refl, slice_get, subst, suc, sym, true, zero, ℕ, ◌+◌, ◌-◌, ◌<◌, ◌∙◌, ◌∷◌, ◌≡◌, ◌≢◌, ◌≤◌}
use Rattle.std.proofs.lemmas.Bool.{and_from, and_parts}
use Rattle.std.proofs.lemmas.Cmp.{lists_total}
use Rattle.std.proofs.lemmas.List.{get_or-map, length-map}
use Rattle.std.proofs.lemmas.List.Elements.{All-from_get_or}
use Rattle.std.proofs.lemmas.List.Sorted.{sum_by-IsPermutation}
use Rattle.std.proofs.lemmas.List.Sums.{sum_by-cons}
use Rattle.std.specs.Cmp.{IsTotalOrder}
use Rattle.std.specs.Cmp.Lexicographic.{slice_cmp}
use Rattle.std.specs.FinMap.{IsAntisymmetric, nat_cmp-IsAntisymmetric, slice_cmp-IsAntisymmetric}
use Rattle.std.specs.List.{AllPairs, filter, list_all, sum_by}
use Rattle.std.specs.List.Sorted.{IsPermutation, IsSorted}
use Rattle.std.specs.Ordering.{is_lt, ordering_reverse, ordering_then}
use Rattle.std.specs.declared.cmp.Ordering.{Ordering}
use Rattle.std.specs.declared.cmp.Ordering.TheVariants.{Equal, Greater, Less}
use Rattle.poly_shape.specs.Order.{HasSame, IsAscending, cells_cmp}
use Rattle.poly_shape.proofs.Ascending.{not_below_itself, same_ascending, same_cells}
use Rattle.poly_design.specs.Layout.{Layout}
use Rattle.poly_design.specs.Name.{name_cmp}
use Rattle.poly_design.specs.PlacementOrder.{placement_cmp, placement_total}
use Rattle.poly_design.specs.declared.placement.Placement.{Placement}
use Rattle.poly_tiling.specs.Lists.{distinct, mem, one, same_list, tally}
use Rattle.poly_tiling.specs.Lister.{HasEachOnce}
use Rattle.poly_tiling.specs.Listings.{IsTilingInOrder, ListingsShow, OverShow}
use Rattle.poly_tiling.specs.Names.{WellNamed, below, in_order, placed_below}
use Rattle.poly_tiling.specs.Puzzle.{View, has_item, is_tiling}
use Rattle.poly_tiling.specs.Shows.{Shows, names}
use Rattle.poly_tiling.specs.TilingOrder.{placed, tiling_cmp}
use Rattle.poly_tiling.specs.Tilings.{how_many}
use Rattle.poly_tiling.specs.declared.item.Item.{Item}
use Rattle.poly_tiling.proofs.Ascending.{ascending_same, distinct_rest, same_list_is, same_list_self}
use Rattle.poly_tiling.proofs.Contained.{at_in, contains_in, in_contains, pairs_cons, pairs_head, pairs_none, pairs_rest}
use Rattle.poly_tiling.proofs.Counts.{ascending_distinct, tally_within}
use Rattle.poly_tiling.proofs.Lists.{In, all_from, all_in, filter_in, in_filter, in_map, in_mem, map_in, mem_in}
use Rattle.poly_tiling.proofs.Orders.{live_once}
use Rattle.poly_tiling.proofs.Ranks.{lt_less}
use Rattle.poly_tiling.proofs.Reached.{numbers_reach_lem}
use Rattle.poly_tiling.proofs.Shown.{in_names, live_given, names_count, names_in, same_number, shows_to}
use Rattle.poly_tiling.proofs.Tilings.{IsTiling, parts}

-- ---- orders in which only equal things compare as equal

then_equal : (p q : Ordering) → ordering_then p q ≡ Equal → (p ≡ Equal) × (q ≡ Equal)
then_equal Less q e = (e, absurd (cc))
then_equal Equal q e = (refl, e)
then_equal Greater q e = (e, absurd (cc))

pub same_placement : IsAntisymmetric placement_cmp
same_placement a b e =
    let both = then_equal (name_cmp a.name b.name) (cells_cmp a.cells b.cells) e in
    let names : a.name ≡ b.name = slice_cmp-IsAntisymmetric nat_cmp-IsAntisymmetric a.name b.name both.0 in
    let cells : a.cells ≡ b.cells = same_cells a.cells b.cells both.1 in
    λ i. record { name = names i; cells = cells i }

same_placements : IsAntisymmetric (slice_cmp placement_cmp)
same_placements = slice_cmp-IsAntisymmetric same_placement

-- what is neither above nor equal is below
pub below_by : {X : Type 0} {R : X → X → Ordering} → IsTotalOrder R → IsAntisymmetric R → (x y : X) → is_lt (R y x) ≡ false → x ≢ y → R x y ≡ Less
below_by {X} {R} o same x y h d = go (R x y) refl
  where
    go : (r : Ordering) → R x y ≡ r → R x y ≡ Less
    go Less e = e
    go Equal e = absurd (d (same x y e))
    go Greater e = let f : R y x ≡ Less = o.antisymm y x ∙ ap ordering_reverse e in let g : true ≡ false = sym (ap is_lt f) ∙ h in cc

-- if each element is below the next, each is below all that follow
pub steps_ascend : {X : Type 0} {R : X → X → Ordering} → IsTotalOrder R → (xs : List X) → ((k : ℕ) (d : X) → k + 1 < length xs → R (get_or xs k d) (get_or xs (k + 1) d) ≡ Less) → IsAscending R xs
steps_ascend {X} {R} o xs step i j d l m = subst (λ n. R (get_or xs i d) (get_or xs n d) ≡ Less) (omega arith) (far (j - (i + 1)) (omega arith))
  where
    far : (n : ℕ) → i + 1 + n < length xs → R (get_or xs i d) (get_or xs (i + 1 + n) d) ≡ Less
    far zero w = subst (λ m. R (get_or xs i d) (get_or xs m d) ≡ Less) (omega arith) (step i d (omega arith))
    far (suc n) w = o.trans _ _ _ (far n (omega arith)) (subst (λ m. R (get_or xs (i + 1 + n) d) (get_or xs m d) ≡ Less) (omega arith) (step (i + 1 + n) d (omega arith)))

-- ---- a tiling's placements in their order

-- the live numbers that a tiling has
abbrev kept : View → List ℕ → List ℕ
kept v T = filter (λ n. mem T n) v.live

names_ascend_at : (v : View) (n : ℕ) (ns : List ℕ) → list_all (λ q. below v n q) ns ≡ true → (keep : ℕ → Bool) → IsAscending placement_cmp (names v (filter keep ns)) → (b : Bool) →
    (o : Option Placement) → slice_get v.placements n ≡ o → IsAscending placement_cmp (names v (cond b (n ∷ filter keep ns) (filter keep ns)))
names_ascend_at v n ns up keep ih false o e = ih
names_ascend_at v n ns up keep ih true None e = rw e ih
names_ascend_at v n ns up keep ih true (Some x) e = rw e (pairs_cons (λ a b. placement_cmp a b ≡ Less) x (names v (filter keep ns)) (λ y i.
    let r = names_in v (filter keep ns) y i in
    let b = all_in (λ q. below v n q) ns up r.0 (filter_in keep ns r.0 r.1).0 in
    lt_less (placement_cmp x y) (sym (ap (λ o. placed_below o (slice_get v.placements r.0)) e ∙ ap (λ o. placed_below (Some x) o) r.2) ∙ b)) ih)

pub names_ascend : (v : View) (ns : List ℕ) → in_order v ns ≡ true → (keep : ℕ → Bool) → IsAscending placement_cmp (names v (filter keep ns))
names_ascend v [] up keep = pairs_none (λ a b. placement_cmp a b ≡ Less)
names_ascend v (n ∷ ns) up keep =
    let hs = and_parts (list_all (λ q. below v n q) ns) (in_order v ns) up in
    names_ascend_at v n ns hs.0 keep (names_ascend v ns hs.1 keep) (keep n) (slice_get v.placements n) refl

placed_ascends : (v : View) → WellNamed v → (T : List ℕ) → IsAscending placement_cmp (placed v T)
placed_ascends v wn T = names_ascend v v.live wn.live_up (λ n. mem T n)

in_kept : (v : View) (T : List ℕ) → IsTiling v T → (n : ℕ) → In n T → In n (kept v T)
in_kept v T t n i = in_filter (λ n. mem T n) v.live n (t.placed n i) (in_mem T n i)

kept_in : (v : View) (T : List ℕ) (n : ℕ) → In n (kept v T) → In n T
kept_in v T n i = mem_in T n (filter_in (λ n. mem T n) v.live n i).1

distinct_filter_at : (keep : ℕ → Bool) (n : ℕ) (ns : List ℕ) → distinct (n ∷ ns) ≡ true → distinct (filter keep ns) ≡ true → (b : Bool) → distinct (cond b (n ∷ filter keep ns) (filter keep ns)) ≡ true
distinct_filter_at keep n ns h ih false = ih
distinct_filter_at keep n ns h ih true = and_from _ _ (all_from (λ y. cond (eqb n y) false true) (filter keep ns) (λ y i.
    all_in (λ y. cond (eqb n y) false true) ns (and_parts (list_all (λ y. cond (eqb n y) false true) ns) (distinct ns) h).0 y (filter_in keep ns y i).0)) ih

pub distinct_filter : (keep : ℕ → Bool) (ns : List ℕ) → distinct ns ≡ true → distinct (filter keep ns) ≡ true
distinct_filter keep [] h = refl
distinct_filter keep (n ∷ ns) h = distinct_filter_at keep n ns h (distinct_filter keep ns (distinct_rest n ns h)) (keep n)

-- `names` and `placed` give the same placements of a tiling
placed_same : (v : View) (T : List ℕ) → IsTiling v T → HasSame (names v T) (placed v T)
placed_same v T t x = (
  λ c. let p = names_in v T x (contains_in (names v T) x c) in in_contains (placed v T) x (in_names v (kept v T) p.0 x (in_kept v T t p.0 p.1) p.2),
  λ c. let p = names_in v (kept v T) x (contains_in (placed v T) x c) in in_contains (names v T) x (in_names v T p.0 x (kept_in v T p.0 p.1) p.2),
)

placed_count : (v : View) (T : List ℕ) → WellNamed v → IsTiling v T → (i : Item) → how_many (placed v T) i ≡ how_many (names v T) i
placed_count v T wn t i =
    let f = λ (p : ℕ). has_item v p i in
    let a = tally_within f f (kept v T) T (distinct_filter (λ n. mem T n) v.live (live_once v wn)) (λ n j e. (kept_in v T n j, e)) in
    let b = tally_within f f T (kept v T) (ascending_distinct T t.up) (λ n j e. (in_kept v T t n j, e)) in
    omega (arith, a, b, names_count v i T, names_count v i (kept v T))

pub apart_from : (xs : List Placement) → IsAscending placement_cmp xs → AllPairs (λ x y. x ≢ y) xs
apart_from xs up i j d l m e = not_below_itself placement_total (get_or xs j d) (subst (λ z. placement_cmp z (get_or xs j d) ≡ Less) e (up i j d l m))

placed_tiles : (v : View) (d : Layout) (T : List ℕ) → WellNamed v → Shows v d → is_tiling v T ≡ true → IsTilingInOrder d (placed v T)
placed_tiles v d T wn s h =
    let t = parts v T h in
    let whole = shows_to v d T wn s t in
    let same = placed_same v T t in (
      record {
        single = apart_from (placed v T) (placed_ascends v wn T);
        inside = λ p c. whole.inside p ((same p).1 c);
        free = λ p q c e. whole.free p q ((same p).1 c) ((same q).1 e);
        least = λ i. let e = placed_count v T wn t i in let l = whole.least i in omega (arith, e, l);
        most = λ i. let e = placed_count v T wn t i in let l = whole.most i in omega (arith, e, l);
        pinned = λ p h. (same p).0 (whole.pinned p h);
      },
      placed_ascends v wn T,
    )

-- tilings with the same placements are equal
number_kept : (v : View) (T U : List ℕ) → WellNamed v → IsTiling v T → placed v T ≡ placed v U → (n : ℕ) → In n T → In n U
number_kept v T U wn t e n i =
    let x = live_given v wn n (t.placed n i) in
    let u = names_in v (kept v U) x.0 (subst (In x.0) e (in_names v (kept v T) n x.0 (in_kept v T t n i) x.1)) in
    subst (λ m. In m U) (same_number v wn u.0 n x.0 u.2 x.1) (kept_in v U u.0 u.1)

placed_once : (v : View) (T U : List ℕ) → WellNamed v → is_tiling v T ≡ true → is_tiling v U ≡ true → placed v T ≡ placed v U → T ≡ U
placed_once v T U wn g h e =
    let t = parts v T g in
    let u = parts v U h in
    ascending_same T U t.up u.up (number_kept v T U wn t e) (number_kept v U T wn u (sym e))

-- ---- lists of tilings

pub one_true : (b : Bool) → 0 < one b → b ≡ true
one_true true l = refl
one_true false l = absurd (omega arith)

pub one_most : (b : Bool) → one b ≤ 1
one_most true = omega arith
one_most false = omega arith

pub tally_some : (T : List ℕ) (lists : List (List ℕ)) → In T lists → 0 < tally (same_list T) lists
tally_some T [] i = absurd i
tally_some T (U ∷ lists) (inl e) = let y = ap one (ap (same_list T) e ∙ same_list_self T) in omega (arith, y)
tally_some T (U ∷ lists) (inr i) = let l = tally_some T lists i in omega (arith, l)

tally_has_at : (T U : List ℕ) (lists : List (List ℕ)) → (0 < tally (same_list T) lists → In T lists) → (b : Bool) → same_list T U ≡ b → 0 < one b + tally (same_list T) lists → In T (U ∷ lists)
tally_has_at T U lists ih true e l = inl (sym (same_list_is T U e))
tally_has_at T U lists ih false e l = inr (ih (omega (arith, l)))

pub tally_has : (T : List ℕ) (lists : List (List ℕ)) → 0 < tally (same_list T) lists → In T lists
tally_has T [] l = absurd (omega arith)
tally_has T (U ∷ lists) l = tally_has_at T U lists (tally_has T lists) (same_list T U) refl l

-- if each tiling occurs at most once, no two elements are the same
apart_by : (lists : List (List ℕ)) → ((T : List ℕ) → tally (same_list T) lists ≤ 1) → AllPairs (λ S T. S ≢ T) lists
apart_by [] h = pairs_none (λ S T. S ≢ T)
apart_by (S ∷ lists) h = pairs_cons (λ S T. S ≢ T) S lists
    (λ T i e. let l = tally_some S lists (subst (λ U. In U lists) (sym e) i) in let y = ap one (same_list_self S) in let m = h S in absurd (omega (arith, l, y, m)))
    (apart_by lists (λ T. let m = h T in omega (arith, m)))

-- each is a tiling, and none occurs twice
record AreTilings (v : View) (lists : List (List ℕ)) : Type 0 where
  tilings : (T : List ℕ) → In T lists → is_tiling v T ≡ true
  apart : AllPairs (λ S T. S ≢ T) lists

tilings_by : (v : View) (lists : List (List ℕ)) → ((T : List ℕ) → tally (same_list T) lists ≤ one (is_tiling v T)) → AreTilings v lists
tilings_by v lists once = record {
  tilings = λ T i. one_true (is_tiling v T) (let l = tally_some T lists i in let m = once T in omega (arith, l, m));
  apart = apart_by lists (λ T. let m = once T in let l = one_most (is_tiling v T) in omega (arith, l, m));
}

placed_apart : (v : View) (lists : List (List ℕ)) → WellNamed v → AreTilings v lists → AllPairs (λ S T. S ≢ T) (map (placed v) lists)
placed_apart v [] wn h = pairs_none (λ S T. S ≢ T)
placed_apart v (S ∷ lists) wn h = pairs_cons (λ S T. S ≢ T) (placed v S) (map (placed v) lists)
    (λ P i e.
    let T = map_in (placed v) lists P i in
    pairs_head (λ S T. S ≢ T) S lists h.apart T.0 T.1 (placed_once v S T.0 wn (h.tilings S (inl refl)) (h.tilings T.0 (inr T.1)) (e ∙ sym T.2)))
    (placed_apart v lists wn (record { tilings = λ T i. h.tilings T (inr i); apart = pairs_rest (λ S T. S ≢ T) S lists h.apart }))

pub over_show_lem : OverShow
over_show_lem n v d wn s over =
    let h = tilings_by v over.list over.once in
    record {
      list = map (placed v) over.list;
      tilings = All-from_get_or (IsTilingInOrder d) (map (placed v) over.list) [] (λ k l.
          let T = map_in (placed v) over.list (get_or (map (placed v) over.list) k []) (at_in (map (placed v) over.list) k [] l) in
          subst (IsTilingInOrder d) T.2 (placed_tiles v d T.0 wn s (h.tilings T.0 T.1)));
      apart = placed_apart v over.list wn h;
      long = let l = over.long in omega (arith, l, length-map over.list (placed v));
    }

sorted_placed : (v : View) (lists : List (List ℕ)) → WellNamed v → AreTilings v lists → IsSorted (tiling_cmp v) lists → IsAscending (slice_cmp placement_cmp) (map (placed v) lists)
sorted_placed v lists wn h up = steps_ascend (lists_total placement_total) (map (placed v) lists) (λ k d l. next v lists wn h up k d (omega (arith, l, length-map lists (placed v))))
  where
    next : (v : View) (lists : List (List ℕ)) → WellNamed v → AreTilings v lists → IsSorted (tiling_cmp v) lists → (k : ℕ) (d : List Placement) → k + 1 < length lists →
        slice_cmp placement_cmp (get_or (map (placed v) lists) k d) (get_or (map (placed v) lists) (k + 1) d) ≡ Less
    next v lists wn h up k d l =
        let a = get_or-map (placed v) lists k [] d (omega arith) in
        let b = get_or-map (placed v) lists (k + 1) [] d l in
        below_by (lists_total placement_total) same_placements (get_or (map (placed v) lists) k d) (get_or (map (placed v) lists) (k + 1) d)
        (ap (λ x. is_lt (slice_cmp placement_cmp x (get_or (map (placed v) lists) k d))) b ∙ ap (λ x. is_lt (slice_cmp placement_cmp (placed v (get_or lists (k + 1) [])) x)) a ∙ up k [] (omega arith) l)
        (placed_apart v lists wn h k (k + 1) d (omega arith) (omega (arith, l, length-map lists (placed v))))

pub listings_show_lem : ListingsShow
listings_show_lem v d lists wn s once up =
    let h = tilings_by v lists (λ T. let e = once T in omega (arith, e)) in
    record {
      ascending = sorted_placed v lists wn h up;
      exact = λ S. (
        λ c. let T = map_in (placed v) lists S (contains_in (map (placed v) lists) S c) in subst (IsTilingInOrder d) T.2 (placed_tiles v d T.0 wn s (h.tilings T.0 T.1)),
        λ t.
            let r = numbers_reach_lem v d S wn s t.0 in
            let i = tally_has r.0 lists (let e = once r.0 in let y = ap one r.1 in omega (arith, e, y)) in
            let same = placed_same v r.0 (parts v r.0 r.1) in
            let is : placed v r.0 ≡ S = same_ascending placement_total (placed v r.0) S (placed_ascends v wn r.0) t.1
            (λ x c. (r.2.same x).0 ((same x).1 c)) (λ x c. (same x).0 ((r.2.same x).1 c)) in
            in_contains (map (placed v) lists) S (subst (λ P. In P (map (placed v) lists)) is (in_map (placed v) lists r.0 i)),
      );
    }

-- ---- a list in another order

tally_sum : {X : Type 0} (f : X → Bool) (xs : List X) → tally f xs ≡ sum_by (λ x. one (f x)) xs
tally_sum f [] = refl
tally_sum f (x ∷ xs) = let ih = tally_sum f xs in omega (arith, ih, sum_by-cons (λ x. one (f x)) x xs)

-- a list that has each tiling once still does in any other order
pub each_once_moved : (v : View) (old new : List (List ℕ)) → IsPermutation old new → HasEachOnce v old → HasEachOnce v new
each_once_moved v old new moved once T = tally_sum (same_list T) new ∙ sum_by-IsPermutation (λ x. one (same_list T x)) old new moved ∙ sym (tally_sum (same_list T) old) ∙ once T
