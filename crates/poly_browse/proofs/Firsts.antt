-- Each class has exactly one tiling that no symmetry takes to an earlier one.
use Rattle.std.proofs.Common.{Bool, ◌≡◌, ◌≢◌, ℕ, ◌<◌, ◌≤◌, ◌⊎◌, ◌∷◌, List, [], Some, cond, get_or, length, map, not, slice_get, slice_index, true, false, refl, sym, ap, subst, ◌∙◌, inl, inr, arith}
use Rattle.std.proofs.lemmas.Bool.{both_ways, cases_Bool, cases_lt, false_from_ne_true, not-true, not_from_false}
use Rattle.std.proofs.lemmas.List.{length-map}
use Rattle.std.proofs.lemmas.List.Elements.{All-from_get_or}
use Rattle.std.specs.Cmp.{tied_itself}
use Rattle.std.specs.Cmp.Lexicographic.{nat_list_cmp_total, slice_cmp}
use Rattle.std.specs.FinMap.{nat_cmp-IsAntisymmetric, slice_cmp-IsAntisymmetric}
use Rattle.std.specs.List.{AllPairs, filter, list_all}
use Rattle.std.specs.Ordering.{is_lt, nat_cmp}
use Rattle.poly_shape.specs.Order.{HasSame}
use Rattle.poly_design.specs.Layout.{Layout, mode_of}
use Rattle.poly_design.specs.Placements.{IsPlacement}
use Rattle.poly_design.specs.declared.placement.Placement.{Placement}
use Rattle.poly_tiling.specs.Lister.{HasEachOnce}
use Rattle.poly_tiling.specs.Lists.{mem, one, same_list, tally}
use Rattle.poly_tiling.specs.Names.{WellNamed}
use Rattle.poly_tiling.specs.Puzzle.{View, is_tiling}
use Rattle.poly_tiling.specs.Shows.{Shows, names}
use Rattle.poly_tiling.specs.Tilings.{IsTiling}
use Rattle.poly_tiling.proofs.Ascending.{ascending_same, same_list_self}
use Rattle.poly_tiling.proofs.Contained.{at_in, contains_in, in_contains, pairs_cons, pairs_head, pairs_none, pairs_rest}
use Rattle.poly_tiling.proofs.Listings.{below_by, one_most, one_true, tally_has, tally_some}
use Rattle.poly_tiling.proofs.Lists.{In, all_from, all_in, filter_in, in_filter, in_map, in_mem, map_in}
use Rattle.poly_tiling.proofs.Ranks.{lt_less}
use Rattle.poly_tiling.proofs.Reached.{numbers_reach_lem}
use Rattle.poly_tiling.proofs.Shown.{in_names, live_given, named_of, names_in, same_number, shows_to, some_same}
use Rattle.poly_tiling.proofs.Tilings.{parts}
use Rattle.poly_browse.specs.declared.motion.Motion.{Motion}
use Rattle.poly_browse.specs.Classes.{AreClasses}
use Rattle.poly_browse.specs.Maps.{HasMap, IsSound, comes_before, image_of, is_first}
use Rattle.poly_browse.specs.Symmetries.{AreAlike, IsSymmetry, TakesPlacement}
use Rattle.poly_browse.proofs.Carried.{alike_back, alike_through, placement_itself, symmetry_itself}
use Rattle.poly_browse.proofs.Motions.{still}
use Rattle.poly_browse.proofs.Sets.{cells_ascend, cells_unblocked, one_taken, some_cell}
use Rattle.poly_browse.proofs.Tiled.{Carrying, image_from, image_has, image_tiles, image_up, moved}

-- the view shows the design; each map is that of a symmetry of the design, and each symmetry has its map unless all cells are
-- blocked
pub record AreMaps (v : View) (d : Layout) (maps : List (List ℕ)) : Type 0 where
  pub well : WellNamed v
  pub shows : Shows v d
  pub sound : (f : List ℕ) → In f maps → IsSound v d f
  pub whole : 0 < length d.cells → (m : Motion) → IsSymmetry d m → HasMap v d.grid maps m

carrying : (v : View) (d : Layout) (maps : List (List ℕ)) → AreMaps v d maps → (f : List ℕ) (s : IsSound v d f) → Carrying v d s.motion f
carrying v d maps a f s = record { well = a.well; shows = a.shows; symmetry = s.symmetry; mapped = s.mapped }

-- ---- the order of lists of numbers

never_itself : (T : List ℕ) → comes_before T T ≡ false
never_itself T = ap is_lt (tied_itself nat_list_cmp_total T)

-- two lists are equal if neither comes before the other
neither : (S T : List ℕ) → comes_before S T ≡ false → comes_before T S ≡ false → (S ≢ T) → ⊥
neither S T a b differ =
    let less = below_by nat_list_cmp_total (slice_cmp-IsAntisymmetric nat_cmp-IsAntisymmetric) S T b differ in
    both_ways (comes_before S T) a (ap is_lt less)

-- if T comes before U, a list that doesn't come before U doesn't come before T
not_sooner : (S T U : List ℕ) → comes_before T U ≡ true → comes_before S U ≡ false → comes_before S T ≡ false
not_sooner S T U tu su = false_from_ne_true (comes_before S T) (λ st.
    both_ways (comes_before S U) su (ap is_lt (nat_list_cmp_total.trans S T U (lt_less (slice_cmp nat_cmp S T) st) (lt_less (slice_cmp nat_cmp T U) tu))))

-- ---- tilings and what they are taken to

alike_image : (v : View) (d : Layout) (maps : List (List ℕ)) → AreMaps v d maps → (f T : List ℕ) → In f maps → is_tiling v T ≡ true → AreAlike d (names v T) (names v (image_of f T))
alike_image v d maps a f T i h =
    let s = a.sound f i in
    let c = carrying v d maps a f s in
    let t = parts v T h in
    record {
      motion = s.motion;
      symmetry = s.symmetry;
      carried = record {
        into = λ p k.
            let n = names_in v T p (contains_in (names v T) p k) in
            let x = moved v d s.motion f c n.0 (t.placed n.0 n.1) in (
              x.image,
              in_contains (names v (image_of f T)) x.image (in_names v (image_of f T) (slice_index f n.0) x.image (image_has f T n.0 n.1) x.taken_to),
              subst (λ (q : Placement). TakesPlacement d.grid s.motion q x.image) (some_same x.place p (sym x.named ∙ n.2)) x.taken,
            );
        onto = λ q k.
            let r = names_in v (image_of f T) q (contains_in (names v (image_of f T)) q k) in
            let n = image_from f T r.0 r.1 in
            let x = moved v d s.motion f c n.0 (t.placed n.0 n.1) in (
              x.place,
              in_contains (names v T) x.place (in_names v T n.0 x.place n.1 x.named),
              subst (λ (p : Placement). TakesPlacement d.grid s.motion x.place p) (some_same x.image q (sym x.taken_to ∙ ap (λ n. slice_get v.placements n) n.2 ∙ r.2)) x.taken,
            );
      };
    }

-- if a symmetry carries one tiling to another, so does its map
taken_by : (v : View) (d : Layout) (m : Motion) (f S T : List ℕ) → Carrying v d m f → is_tiling v S ≡ true → is_tiling v T ≡ true → (a : AreAlike d (names v S) (names v T)) → a.motion ≡ m → T ≡ image_of f S
taken_by v d m f S T c g h a e =
    let s = parts v S g in
    let t = parts v T h in
    ascending_same T (image_of f S) t.up (image_up f S)
    (λ k i.
    let y = live_given v c.well k (t.placed k i) in
    let y_is = (c.shows.places y.0).0 (named_of v v.live k y.0 (t.placed k i) y.1) in
    let x = a.carried.onto y.0 (in_contains (names v T) y.0 (in_names v T k y.0 i y.1)) in
    let n = names_in v S x.0 (contains_in (names v S) x.0 x.1) in
    let z = moved v d m f c n.0 (s.placed n.0 n.1) in
    let is : x.0 ≡ z.place = some_same x.0 z.place (sym n.2 ∙ z.named) in
    let same : z.image ≡ y.0 = one_taken d.grid m x.0 z.image y.0 (cells_ascend d z.image z.image_is) (cells_ascend d y.0 y_is)
    (subst (λ (q : Placement). TakesPlacement d.grid m q z.image) (sym is) z.taken)
    (subst (λ (w : Motion). TakesPlacement d.grid w x.0 y.0) e x.2) in
    subst (λ q. In q (image_of f S)) (same_number v c.well (slice_index f n.0) k y.0 (z.taken_to ∙ ap (λ (q : Placement). Some q) same) y.1) (image_has f S n.0 n.1))
    (λ k i.
    let n = image_from f S k i in
    let z = moved v d m f c n.0 (s.placed n.0 n.1) in
    let y = a.carried.into z.place (in_contains (names v S) z.place (in_names v S n.0 z.place n.1 z.named)) in
    let r = names_in v T y.0 (contains_in (names v T) y.0 y.1) in
    let y_is = (c.shows.places y.0).0 (named_of v v.live r.0 y.0 (t.placed r.0 r.1) r.2) in
    let same : y.0 ≡ z.image = one_taken d.grid m z.place y.0 z.image (cells_ascend d y.0 y_is) (cells_ascend d z.image z.image_is)
    (subst (λ (w : Motion). TakesPlacement d.grid w z.place y.0) e y.2) z.taken in
    subst (λ q. In q T) (same_number v c.well r.0 k z.image (r.2 ∙ ap (λ (q : Placement). Some q) same) (ap (λ n. slice_get v.placements n) (sym n.2) ∙ z.taken_to)) r.1)

-- a design whose cells are all blocked has no placement
no_placement : (d : Layout) → d.cells ≡ [] → (p : Placement) → IsPlacement d p → ⊥
no_placement d none p is =
    let c = some_cell d p is in
    cells_unblocked d p is c.0 c.1 (ap (λ l. mode_of (record d { cells = l }) c.0) none)

no_number : (v : View) (d : Layout) → WellNamed v → Shows v d → d.cells ≡ [] → (T : List ℕ) → is_tiling v T ≡ true → T ≡ []
no_number v d wn s none [] h = refl
no_number v d wn s none (n ∷ T) h =
    let t = parts v (n ∷ T) h in
    let i = t.placed n (inl refl) in
    let x = live_given v wn n i in
    absurd (no_placement d none x.0 ((s.places x.0).0 (named_of v v.live n x.0 i x.1)))

-- two alike tilings are equal, or a map takes one to the other
pub reach : (v : View) (d : Layout) (maps : List (List ℕ)) → AreMaps v d maps → (S T : List ℕ) → is_tiling v S ≡ true → is_tiling v T ≡ true → AreAlike d (names v S) (names v T) →
    (S ≡ T) ⊎ ((f : List ℕ) × In f maps × (T ≡ image_of f S))
reach v d maps a S T g h alike = elim (cases_lt 0 (length d.cells)) [
  | inl some ↦
      let m = a.whole some alike.motion alike.symmetry in
      inr (m.list, contains_in maps m.list m.here, taken_by v d alike.motion m.list S T (record { well = a.well; shows = a.shows; symmetry = alike.symmetry; mapped = m.mapped }) g h alike refl)
  | inr none ↦
      let empty = nothing d.cells none in
      inl (no_number v d a.well a.shows empty S g ∙ sym (no_number v d a.well a.shows empty T h))
]
  where
    nothing : {X : Type 0} (xs : List X) → length xs ≤ 0 → xs ≡ []
    nothing [] l = refl
    nothing (x ∷ xs) l = absurd (omega arith)

-- ---- the first of a class

no_sooner : (v : View) (d : Layout) (maps : List (List ℕ)) → AreMaps v d maps → (S T : List ℕ) → is_tiling v S ≡ true → is_tiling v T ≡ true → AreAlike d (names v S) (names v T) → is_first maps S ≡ true → comes_before T S ≡ false
no_sooner v d maps a S T g h alike first = elim (reach v d maps a S T g h alike) [
  | inl e ↦ subst (λ U. comes_before U S ≡ false) e (never_itself S)
  | inr r ↦ ap (λ U. comes_before U S) r.2 ∙ not-true (comes_before (image_of r.0 S) S) (all_in (λ f. not (comes_before (image_of f S) S)) maps first r.0 r.1)
]

-- two alike tilings that are both first are equal
firsts_apart : (v : View) (d : Layout) (maps : List (List ℕ)) → AreMaps v d maps → (S T : List ℕ) → is_tiling v S ≡ true → is_tiling v T ≡ true → is_first maps S ≡ true → is_first maps T ≡ true → S ≢ T → AreAlike d (names v S) (names v T) → ⊥
firsts_apart v d maps a S T g h first second differ alike =
    neither S T (no_sooner v d maps a T S h g (alike_back d (names v S) (names v T) alike) second) (no_sooner v d maps a S T g h alike first) differ

-- the least among a tiling and its images
record IsLeast (T : List ℕ) (maps : List (List ℕ)) (U : List ℕ) : Type 0 where
  among : (U ≡ T) ⊎ ((f : List ℕ) × In f maps × (U ≡ image_of f T))
  low : comes_before T U ≡ false
  lows : (f : List ℕ) → In f maps → comes_before (image_of f T) U ≡ false

least_of : (T : List ℕ) (maps : List (List ℕ)) → (U : List ℕ) × IsLeast T maps U
least_of T [] = (T, record { among = inl refl; low = never_itself T; lows = λ f i. absurd i })
least_of T (f ∷ maps) = elim (cases_Bool (comes_before (image_of f T) (least_of T maps).0)) [
  | inl y ↦ (
    image_of f T,
    record {
      among = inr (f, inl refl, refl);
      low = not_sooner T (image_of f T) (least_of T maps).0 y (least_of T maps).1.low;
      lows = λ g i. elim i [
        | inl e ↦ subst (λ h. comes_before (image_of h T) (image_of f T) ≡ false) e (never_itself (image_of f T))
        | inr j ↦ not_sooner (image_of g T) (image_of f T) (least_of T maps).0 y ((least_of T maps).1.lows g j)
      ];
    },
  )
  | inr n ↦ (
    (least_of T maps).0,
    record {
      among = elim (least_of T maps).1.among [ inl e ↦ inl e | inr r ↦ inr (r.0, inr r.1, r.2) ];
      low = (least_of T maps).1.low;
      lows = λ g i. elim i [
        | inl e ↦ subst (λ h. comes_before (image_of h T) (least_of T maps).0 ≡ false) e n
        | inr j ↦ (least_of T maps).1.lows g j
      ];
    },
  )
]

-- the tiling is alike to one that is first
pub record HasFirst (v : View) (d : Layout) (maps : List (List ℕ)) (T : List ℕ) : Type 0 where
  pub list : List ℕ
  pub tiles : is_tiling v list ≡ true
  pub first : is_first maps list ≡ true
  pub alike : AreAlike d (names v T) (names v list)

same_alike : (d : Layout) (S T : List Placement) → HasSame S T → AreAlike d S T
same_alike d S T same = record {
  motion = still;
  symmetry = symmetry_itself d;
  carried = record { into = λ p i. (p, (same p).0 i, placement_itself d.grid p); onto = λ p i. (p, (same p).1 i, placement_itself d.grid p) };
}

pub first_of : (v : View) (d : Layout) (maps : List (List ℕ)) → AreMaps v d maps → (T : List ℕ) → is_tiling v T ≡ true → HasFirst v d maps T
first_of v d maps a T h =
    let l = least_of T maps in
    let U = l.0 in
    let tiles : is_tiling v U ≡ true = elim l.1.among [
      | inl e ↦ subst (λ W. is_tiling v W ≡ true) (sym e) h
      | inr r ↦ let s = a.sound r.0 r.1 in subst (λ W. is_tiling v W ≡ true) (sym r.2) (image_tiles v d s.motion r.0 T (carrying v d maps a r.0 s) h)
    ] in
    let alike : AreAlike d (names v T) (names v U) = elim l.1.among [
      | inl e ↦ subst (λ W. AreAlike d (names v T) (names v W)) (sym e) (same_alike d (names v T) (names v T) (λ p. (λ i. i, λ i. i)))
      | inr r ↦ subst (λ W. AreAlike d (names v T) (names v W)) (sym r.2) (alike_image v d maps a r.0 T r.1 h)
    ] in
    record {
      list = U;
      tiles = tiles;
      first = all_from (λ f. not (comes_before (image_of f U) U)) maps (λ g i.
          let s = a.sound g i in
          let through = alike_through d (names v T) (names v U) (names v (image_of g U)) alike (alike_image v d maps a g U i tiles) in
          not_from_false (comes_before (image_of g U) U) (elim (reach v d maps a T (image_of g U) h (image_tiles v d s.motion g U (carrying v d maps a g s) tiles) through) [
            | inl e ↦ subst (λ W. comes_before W U ≡ false) e l.1.low
            | inr r ↦ subst (λ W. comes_before W U ≡ false) (sym r.2) (l.1.lows r.0 r.1)
          ]));
      alike = alike;
    }

-- ---- lists of tilings

pub listed_tiles : (v : View) (lists : List (List ℕ)) → HasEachOnce v lists → (T : List ℕ) → In T lists → is_tiling v T ≡ true
listed_tiles v lists once T i = one_true (is_tiling v T) (let l = tally_some T lists i in let e = once T in omega (arith, l, e))

tiles_listed : (v : View) (lists : List (List ℕ)) → HasEachOnce v lists → (T : List ℕ) → is_tiling v T ≡ true → In T lists
tiles_listed v lists once T h = tally_has T lists (let e = once T in let y = ap one h in omega (arith, e, y))

kept_apart_at : (keep : List ℕ → Bool) (S : List ℕ) (lists : List (List ℕ)) → (In S lists → ⊥) → AllPairs (λ S T. S ≢ T) (filter keep lists) → (b : Bool) → AllPairs (λ S T. S ≢ T) (cond b (S ∷ filter keep lists) (filter keep lists))
kept_apart_at keep S lists only rest true = pairs_cons (λ S T. S ≢ T) S (filter keep lists) (λ T i e. only (subst (λ U. In U lists) (sym e) (filter_in keep lists T i).0)) rest
kept_apart_at keep S lists only rest false = rest

-- if a list has no repeats, no two of its elements that are kept are the same
kept_apart : (keep : List ℕ → Bool) (lists : List (List ℕ)) → ((T : List ℕ) → tally (same_list T) lists ≤ 1) → AllPairs (λ S T. S ≢ T) (filter keep lists)
kept_apart keep [] h = pairs_none (λ S T. S ≢ T)
kept_apart keep (S ∷ lists) h = kept_apart_at keep S lists
    (λ i. let l = tally_some S lists i in let y = ap one (same_list_self S) in let m = h S in omega (arith, l, y, m))
    (kept_apart keep lists (λ T. let m = h T in omega (arith, m))) (keep S)

named_apart : (v : View) (d : Layout) (maps : List (List ℕ)) → AreMaps v d maps → (lists : List (List ℕ)) → AllPairs (λ S T. S ≢ T) lists → ((T : List ℕ) → In T lists → (is_tiling v T ≡ true) × (is_first maps T ≡ true)) →
    AllPairs (λ S T. AreAlike d S T → ⊥) (map (names v) lists)
named_apart v d maps a [] apart each = pairs_none (λ S T. AreAlike d S T → ⊥)
named_apart v d maps a (S ∷ lists) apart each = pairs_cons (λ S T. AreAlike d S T → ⊥) (names v S) (map (names v) lists)
    (λ P i alike.
    let T = map_in (names v) lists P i in
    let s = each S (inl refl) in
    let t = each T.0 (inr T.1) in
    firsts_apart v d maps a S T.0 s.0 t.0 s.1 t.1 (pairs_head (λ S T. S ≢ T) S lists apart T.0 T.1) (subst (λ (Q : List Placement). AreAlike d (names v S) Q) (sym T.2) alike))
    (named_apart v d maps a lists (pairs_rest (λ S T. S ≢ T) S lists apart) (λ T i. each T (inr i)))

pub firsts_are_classes : (v : View) (d : Layout) (maps lists : List (List ℕ)) → AreMaps v d maps → HasEachOnce v lists → AreClasses d (length (filter (is_first maps) lists))
firsts_are_classes v d maps lists a once =
    let kept = filter (is_first maps) lists in
    let each : (T : List ℕ) → In T kept → (is_tiling v T ≡ true) × (is_first maps T ≡ true) = λ T i.
    let k = filter_in (is_first maps) lists T i in
    (listed_tiles v lists once T k.0, k.1) in
    record {
      firsts = map (names v) kept;
      tilings = All-from_get_or (IsTiling d) (map (names v) kept) [] (λ k l.
          let T = map_in (names v) kept (get_or (map (names v) kept) k []) (at_in (map (names v) kept) k [] l) in
          subst (IsTiling d) T.2 (shows_to v d T.0 a.well a.shows (parts v T.0 (each T.0 T.1).0)));
      apart = named_apart v d maps a kept (kept_apart (is_first maps) lists (λ T. let e = once T in let m = one_most (is_tiling v T) in omega (arith, e, m))) each;
      whole = λ T t.
          let r = numbers_reach_lem v d T a.well a.shows t in
          let u = first_of v d maps a r.0 r.1 in (
            names v u.list,
            in_contains (map (names v) kept) (names v u.list) (in_map (names v) kept u.list (in_filter (is_first maps) lists u.list (tiles_listed v lists once u.list u.tiles) u.first)),
            alike_back d T (names v u.list) (alike_through d T (names v r.0) (names v u.list) (alike_back d (names v r.0) T (same_alike d (names v r.0) T r.2.same)) u.alike),
          );
      counted = length-map kept (names v);
    }

-- a view with a pin that isn't live has no tiling, so no class
pub no_classes : (v : View) (d : Layout) → WellNamed v → Shows v d → list_all (λ n. mem v.live n) v.pins ≡ false → AreClasses d 0
no_classes v d wn s lost =
    let none : (T : List Placement) → IsTiling d T → ⊥ = λ T t.
    let r = numbers_reach_lem v d T wn s t in
    let p = parts v r.0 r.1 in
    both_ways (list_all (λ n. mem v.live n) v.pins) lost (all_from (λ n. mem v.live n) v.pins (λ n i. in_mem v.live n (p.placed n (p.pinned n i)))) in
    record {
      firsts = [];
      tilings = λ k e l. absurd (omega (arith, l));
      apart = pairs_none (λ S T. AreAlike d S T → ⊥);
      whole = λ T t. absurd (none T t);
      counted = refl;
    }
