-- If a view shows a design, each tiling of the design, as a set, is named by exactly one ascending list of numbers.
use Rattle.std.proofs.Common.{Bool, List, Some, [], ap, arith, cond, eqb, false, inl, inr, length, ltb, map, refl, slice_get, subst, sym, true, ℕ, ◌∙◌, ◌∷◌, ◌≡◌, ◌≢◌}
use Rattle.std.proofs.lemmas.Bool.{and_from, false_from_ne_true, lt-ltb, ne_eqb}
use Rattle.std.specs.List.{AllPairs, Contains, list_any}
use Rattle.poly_design.specs.Layout.{Layout}
use Rattle.poly_design.specs.declared.placement.Placement.{Placement}
use Rattle.poly_tiling.specs.declared.item.Item.{Item}
use Rattle.poly_tiling.specs.Lists.{distinct, one, put_all, tally}
use Rattle.poly_tiling.specs.Puzzle.{View, conflicts, count, has_item, items_of, same_item}
use Rattle.poly_tiling.specs.Names.{WellNamed}
use Rattle.poly_tiling.specs.Tilings.{how_many}
use Rattle.poly_tiling.specs.Shows.{Shows, StandFor, given, names}
use Rattle.poly_tiling.specs.Laws.{NumbersReach}
use Rattle.poly_tiling.proofs.Lists.{In, all_from}
use Rattle.poly_tiling.proofs.Ascending.{ascending_same, in_put_all_left, put_all_in, put_all_up}
use Rattle.poly_tiling.proofs.Counts.{ascending_distinct, tally_within}
use Rattle.poly_tiling.proofs.Contained.{contains_in, get_low, in_contains, pairs_head, pairs_rest}
use Rattle.poly_tiling.proofs.Stands.{at_stands, stands_at}
use Rattle.poly_tiling.proofs.Tilings.{IsTiling, whole}
use Rattle.poly_tiling.proofs.Shown.{conflict_of_numbers, in_names, is_given, named_of, names_in, pin_given, same_number, shown_least, shown_most, some_same}

-- live numbers that name the placements, one by one
numbers : (v : View) (d : Layout) → Shows v d → (S : List Placement) → ((x : Placement) → In x S → (n : ℕ) × In n v.live × (slice_get v.placements n ≡ Some x)) →
    (N : List ℕ) × StandFor v.placements N S × ((n : ℕ) → In n N → In n v.live)
numbers v d s [] h = ([], refl, λ n i. absurd i)
numbers v d s (x ∷ S) h =
    let r = numbers v d s S (λ y i. h y (inr i)) in
    let p = h x (inl refl) in (
      p.0 ∷ r.0,
      ap (λ o. o ∷ map (λ p. slice_get v.placements p) r.0) p.2 ∙ ap (λ os. Some x ∷ os) r.1,
      λ n i. elim i [ inl e ↦ subst (λ m. In m v.live) e p.1 | inr j ↦ r.2 n j ],
    )

heads_stand : (v : View) (n : ℕ) (N : List ℕ) (x : Placement) (S : List Placement) → StandFor v.placements (n ∷ N) (x ∷ S) → (slice_get v.placements n ≡ Some x) × StandFor v.placements N S
heads_stand v n N x S e = (cc, cc)

pub not_both : (v : View) (N : List ℕ) (S : List Placement) → StandFor v.placements N S → AllPairs (λ x y. x ≢ y) S → distinct N ≡ true
not_both v [] S e h = refl
not_both v (n ∷ N) [] e h = cc
not_both v (n ∷ N) (x ∷ S) e h =
    let es = heads_stand v n N x S e in
    and_from _ _ (all_from (λ y. cond (eqb n y) false true) N (λ m i. ap (λ b. cond b false true) (ne_eqb n m (λ k.
    let r = stands_at v.placements N S es.1 m i in
    let same : x ≡ r.0 = some_same x r.0 (sym es.0 ∙ ap (λ z. slice_get v.placements z) k ∙ r.2) in
    pairs_head (λ x y. x ≢ y) x S h r.0 r.1 same))))
    (not_both v N S es.1 (pairs_rest (λ x y. x ≢ y) x S h))

counted : (v : View) (i : Item) (N : List ℕ) (S : List Placement) → StandFor v.placements N S → count v N i ≡ how_many S i
counted v i [] [] e = refl
counted v i [] (x ∷ S) e = cc
counted v i (n ∷ N) [] e = cc
counted v i (n ∷ N) (x ∷ S) e = let es = heads_stand v n N x S e in omega (arith, ap (λ o. one (list_any (λ j. same_item j i) (items_of o))) es.0, counted v i N S es.1)

-- sorting a list without repeats doesn't change a count
sorted_count : (f : ℕ → Bool) (N : List ℕ) → distinct N ≡ true → tally f (put_all N []) ≡ tally f N
sorted_count f N h =
    let up = put_all_up N [] refl in
    let a = tally_within f f (put_all N []) N (ascending_distinct (put_all N []) up) (λ n i e. (elim (put_all_in N [] n i) [ inl j ↦ j | inr j ↦ absurd j ], e)) in
    let b = tally_within f f N (put_all N []) h (λ n i e. (in_put_all_left N [] n i, e)) in
    omega arith

-- if U names every placement that T names, U has every number of T
number_in : (v : View) (T U : List ℕ) → WellNamed v → given v T ≡ true → ((x : Placement) → Contains (names v T) x → Contains (names v U) x) → (n : ℕ) → In n T → In n U
number_in v T U wn g e n i =
    let x = is_given v T g n i in
    let u = names_in v U x.0 (contains_in (names v U) x.0 (e x.0 (in_contains (names v T) x.0 (in_names v T n x.0 i x.1)))) in
    subst (λ m. In m U) (same_number v wn u.0 n x.0 u.2 x.1) u.1

pub numbers_reach_lem : NumbersReach
numbers_reach_lem v d S wn s c =
    let r = numbers v d s S (λ x i. let k = (s.places x).1 (c.inside x (in_contains S x i)) in (k.number, contains_in v.live k.number k.stands, k.names)) in
    let N = r.0 in
    let T = put_all N [] in
    let up = put_all_up N [] refl in
    let member : (n : ℕ) → In n T → In n N = λ n i. elim (put_all_in N [] n i) [ inl j ↦ j | inr j ↦ absurd j ] in
    let counts : (i : Item) → count v T i ≡ how_many S i = λ i. sorted_count (λ p. has_item v p i) N (not_both v N S r.1 c.single) ∙ counted v i N S r.1 in
    let t : IsTiling v T = record {
      up = up;
      placed = λ n i. r.2 n (member n i);
      apart = λ p q i j. false_from_ne_true (conflicts v p q) (λ k.
          let x = stands_at v.placements N S r.1 p (member p i) in
          let y = stands_at v.placements N S r.1 q (member q j) in
          c.free x.0 y.0 (in_contains S x.0 x.1) (in_contains S y.0 y.1) (conflict_of_numbers v wn p q x.0 y.0 x.2 y.2 k));
      enough = λ i. omega (arith, counts i, c.least i, shown_least v d s i);
      few = λ i. omega (arith, counts i, c.most i, shown_most v d s i);
      pinned = λ p i.
          let x = pin_given v wn p i in
          let q = at_stands v.placements N S r.1 x.0 (contains_in S x.0 (c.pinned x.0 ((s.pins x.0).0 (named_of v v.pins p x.0 i x.1)))) in
          subst (λ n. In n T) (same_number v wn q.0 p x.0 q.2 x.1) (in_put_all_left N [] q.0 q.1);
    } in
    let low : given v T ≡ true = all_from (λ n. ltb n (length v.placements)) T (λ n i. let x = stands_at v.placements N S r.1 n (member n i) in lt-ltb n _ (get_low v.placements n x.0 x.2)) in
    let to : (x : Placement) → Contains (names v T) x → Contains S x = λ x m.
    let p = names_in v T x (contains_in (names v T) x m) in
    let y = stands_at v.placements N S r.1 p.0 (member p.0 p.1) in
    in_contains S x (subst (λ z. In z S) (some_same y.0 x (sym y.2 ∙ p.2)) y.1) in
    let from : (x : Placement) → Contains S x → Contains (names v T) x = λ x m.
    let p = at_stands v.placements N S r.1 x (contains_in S x m) in
    in_contains (names v T) x (in_names v T p.0 x (in_put_all_left N [] p.0 p.1) p.2) in (
      T,
      whole v T t,
      record {
        ascends = up;
        given_out = low;
        same = λ x. (to x, from x);
        only = λ U u g e. ascending_same U T u up
            (number_in v U T wn g (λ x m. from x ((e x).0 m)))
            (number_in v T U wn low (λ x m. (e x).1 (to x m)));
      },
    )
