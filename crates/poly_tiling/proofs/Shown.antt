-- Tilings by numbers are tilings of the design that the view shows.
use Rattle.std.proofs.Common.{List, None, Option, Some, [], ap, arith, eqb, false, inl, inr, length, ltb, not, refl, slice_get, subst, sym, true, ℕ, ◌+◌, ◌∙◌, ◌∷◌, ◌≡◌, ◌≢◌}
use Rattle.std.proofs.lemmas.Bool.{and_from, and_parts, both_ways, eq-eqb, false_from_ne_true, ltb-true, ne_eqb, not-true, not_from_false}
use Rattle.std.specs.List.{AllPairs, Contains, cons_option, list_any}
use Rattle.poly_grid.specs.Spot.{Spot}
use Rattle.poly_shape.specs.Order.{spot_eq, spot_equiv}
use Rattle.poly_design.specs.Layout.{Layout}
use Rattle.poly_design.specs.declared.placement.Placement.{Placement}
use Rattle.poly_tiling.specs.declared.item.Item.{Item}
use Rattle.poly_tiling.specs.Lists.{ascending, one}
use Rattle.poly_tiling.specs.Puzzle.{View, bound_in, conflicts, count, has_cell, items_of, least, most, same_item, share_cell}
use Rattle.poly_tiling.specs.Names.{WellNamed}
use Rattle.poly_tiling.specs.Tilings.{Conflict, bounds_of, how_many}
use Rattle.poly_tiling.specs.Tilings.{IsTiling as IsTilingOf}
use Rattle.poly_tiling.specs.Shows.{IsNamed, Shows, given, names}
use Rattle.poly_tiling.specs.Laws.{NumbersShow}
use Rattle.poly_tiling.proofs.Lists.{In, all_in, any_from, any_in}
use Rattle.poly_tiling.proofs.Ascending.{ascending_rest, below_all}
use Rattle.poly_tiling.proofs.Contained.{contains_in, in_contains, low_get, one_place, pairs_cons, pairs_none}
use Rattle.poly_tiling.proofs.Bounded.{shown_bounds}
use Rattle.poly_tiling.proofs.Tilings.{IsTiling, parts, same_spot_is, whole}

pub some_same : {X : Type 0} (x y : X) → Some x ≡ Some y → x ≡ y
some_same x y e = cc

pub shared_cell : (p q : Placement) (c : Spot) → In c p.cells → In c q.cells → share_cell (Some p) (Some q) ≡ true
shared_cell p q c i j = any_from (λ c. has_cell q.cells c) p.cells c i (any_from (λ d. spot_eq d c) q.cells c j (spot_equiv.refl c))

pub cell_shared : (p q : Placement) → share_cell (Some p) (Some q) ≡ true → (c : Spot) × In c p.cells × In c q.cells
cell_shared p q h =
    let r = any_in (λ c. has_cell q.cells c) p.cells h in
    let s = any_in (λ d. spot_eq d r.0) q.cells r.2 in
    (r.0, r.1, subst (λ z. In z q.cells) (same_spot_is s.0 r.0 s.2) s.1)

pub conflict_from : (p q : Placement) → p ≢ q → share_cell (Some p) (Some q) ≡ true → Conflict p q
conflict_from p q n h = let r = cell_shared p q h in record { differ = n; shared = r.0; in_first = in_contains p.cells r.0 r.1; in_second = in_contains q.cells r.0 r.2 }

pub conflict_shares : (p q : Placement) → Conflict p q → share_cell (Some p) (Some q) ≡ true
conflict_shares p q c = shared_cell p q c.shared (contains_in p.cells c.shared c.in_first) (contains_in q.cells c.shared c.in_second)

pub same_number : (v : View) → WellNamed v → (m n : ℕ) (x : Placement) → slice_get v.placements m ≡ Some x → slice_get v.placements n ≡ Some x → m ≡ n
same_number v wn m n x a b = one_place v.placements wn.apart m n x a b

in_cons : (o : Option Placement) (ps : List Placement) (x : Placement) → In x ps → In x (cons_option o ps)
in_cons None ps x i = i
in_cons (Some y) ps x i = inr i

pub in_names : (v : View) (T : List ℕ) (p : ℕ) (x : Placement) → In p T → slice_get v.placements p ≡ Some x → In x (names v T)
in_names v [] p x i e = absurd i
in_names v (q ∷ T) p x (inl k) e = rw (ap (λ n. slice_get v.placements n) k ∙ e) (inl refl)
in_names v (q ∷ T) p x (inr i) e = in_cons (slice_get v.placements q) (names v T) x (in_names v T p x i e)

names_in_at : (v : View) (q : ℕ) (T : List ℕ) (x : Placement) (o : Option Placement) → slice_get v.placements q ≡ o →
    (In x (names v T) → (p : ℕ) × In p T × (slice_get v.placements p ≡ Some x)) → In x (cons_option o (names v T)) → (p : ℕ) × In p (q ∷ T) × (slice_get v.placements p ≡ Some x)
names_in_at v q T x None e ih i = let r = ih i in (r.0, inr r.1, r.2)
names_in_at v q T x (Some y) e ih (inl k) = (q, inl refl, e ∙ ap Some k)
names_in_at v q T x (Some y) e ih (inr i) = let r = ih i in (r.0, inr r.1, r.2)

pub names_in : (v : View) (T : List ℕ) (x : Placement) → In x (names v T) → (p : ℕ) × In p T × (slice_get v.placements p ≡ Some x)
names_in v [] x i = absurd i
names_in v (q ∷ T) x i = names_in_at v q T x (slice_get v.placements q) refl (names_in v T x) i

apart_at : (v : View) → WellNamed v → (q : ℕ) (T : List ℕ) → ascending (q ∷ T) ≡ true → AllPairs (λ x y. x ≢ y) (names v T) →
    (o : Option Placement) → slice_get v.placements q ≡ o → AllPairs (λ x y. x ≢ y) (cons_option o (names v T))
apart_at v wn q T up ih None e = ih
apart_at v wn q T up ih (Some x) e = pairs_cons (λ x y. x ≢ y) x (names v T) (λ y i k.
    let r = names_in v T y i in
    let same = same_number v wn q r.0 y (e ∙ ap Some k) r.2 in
    let below = below_all q T up r.0 r.1 in
    absurd (omega arith)) ih

pub names_apart : (v : View) → WellNamed v → (T : List ℕ) → ascending T ≡ true → AllPairs (λ x y. x ≢ y) (names v T)
names_apart v wn [] up = pairs_none (λ x y. x ≢ y)
names_apart v wn (q ∷ T) up = apart_at v wn q T up (names_apart v wn T (ascending_rest q T up)) (slice_get v.placements q) refl

names_count_at : (v : View) (i : Item) (T : List ℕ) (o : Option Placement) → how_many (names v T) i ≡ count v T i →
    how_many (cons_option o (names v T)) i ≡ one (list_any (λ j. same_item j i) (items_of o)) + count v T i
names_count_at v i T None ih = omega (arith, ih)
names_count_at v i T (Some x) ih = omega (arith, ih)

-- counting the named placements that have an item gives the same as counting the numbers that have it
pub names_count : (v : View) (i : Item) (T : List ℕ) → how_many (names v T) i ≡ count v T i
names_count v i [] = refl
names_count v i (q ∷ T) = names_count_at v i T (slice_get v.placements q) (names_count v i T)

pub conflicts_from : (v : View) (p q : ℕ) (x y : Placement) → slice_get v.placements p ≡ Some x → slice_get v.placements q ≡ Some y → Conflict x y → conflicts v p q ≡ true
conflicts_from v p q x y a b c =
    let differ : eqb p q ≡ false = ne_eqb p q (λ e. c.differ (some_same x y (sym a ∙ ap (λ n. slice_get v.placements n) e ∙ b))) in
    and_from _ _ (not_from_false _ differ) (ap (λ o. share_cell o (slice_get v.placements q)) a ∙ ap (λ o. share_cell (Some x) o) b ∙ conflict_shares x y c)

pub conflict_of_numbers : (v : View) → WellNamed v → (p q : ℕ) (x y : Placement) → slice_get v.placements p ≡ Some x → slice_get v.placements q ≡ Some y → conflicts v p q ≡ true → Conflict x y
conflict_of_numbers v wn p q x y a b c =
    let cs = and_parts (not (eqb p q)) (share_cell (slice_get v.placements p) (slice_get v.placements q)) c in
    conflict_from x y
    (λ e. both_ways (eqb p q) (not-true _ cs.0) (eq-eqb p q (same_number v wn p q x a (b ∙ ap Some (sym e)))))
    (sym (ap (λ o. share_cell o (slice_get v.placements q)) a ∙ ap (λ o. share_cell (Some x) o) b) ∙ cs.1)

pub shown_least : (v : View) (d : Layout) → Shows v d → (i : Item) → least v i ≡ (bounds_of d i).least
shown_least v d s i = ap (λ bs. bound_in bs i (λ b. b.least)) s.bounds ∙ shown_bounds d (λ b. b.least) refl i

pub shown_most : (v : View) (d : Layout) → Shows v d → (i : Item) → most v i ≡ (bounds_of d i).most
shown_most v d s i = ap (λ bs. bound_in bs i (λ b. b.most)) s.bounds ∙ shown_bounds d (λ b. b.most) refl i

pub named_of : (v : View) (ns : List ℕ) (n : ℕ) (x : Placement) → In n ns → slice_get v.placements n ≡ Some x → IsNamed v ns x
named_of v ns n x i e = record { number = n; stands = in_contains ns n i; names = e }

pub is_given : (v : View) (T : List ℕ) → given v T ≡ true → (n : ℕ) → In n T → (x : Placement) × (slice_get v.placements n ≡ Some x)
is_given v T g n i = low_get v.placements n (ltb-true n _ (all_in (λ n. ltb n (length v.placements)) T g n i))

pub live_given : (v : View) → WellNamed v → (n : ℕ) → In n v.live → (x : Placement) × (slice_get v.placements n ≡ Some x)
live_given v wn n i = is_given v v.live wn.named n i

pub pin_given : (v : View) → WellNamed v → (n : ℕ) → In n v.pins → (x : Placement) × (slice_get v.placements n ≡ Some x)
pin_given v wn n i = is_given v v.pins wn.pins_named n i

pub shows_to : (v : View) (d : Layout) (T : List ℕ) → WellNamed v → Shows v d → IsTiling v T → IsTilingOf d (names v T)
shows_to v d T wn s t = record {
  single = names_apart v wn T t.up;
  inside = λ x m. let p = names_in v T x (contains_in (names v T) x m) in (s.places x).0 (named_of v v.live p.0 x (t.placed p.0 p.1) p.2);
  free = λ x y m n c.
      let p = names_in v T x (contains_in (names v T) x m) in
      let q = names_in v T y (contains_in (names v T) y n) in
      both_ways (conflicts v p.0 q.0) (t.apart p.0 q.0 p.1 q.1) (conflicts_from v p.0 q.0 x y p.2 q.2 c);
  least = λ i. omega (arith, names_count v i T, t.enough i, shown_least v d s i);
  most = λ i. omega (arith, names_count v i T, t.few i, shown_most v d s i);
  pinned = λ x h.
      let r = (s.pins x).1 h in
      in_contains (names v T) x (in_names v T r.number x (t.pinned r.number (contains_in v.pins r.number r.stands)) r.names);
}

pub shows_from : (v : View) (d : Layout) (T : List ℕ) → WellNamed v → Shows v d → ascending T ≡ true → given v T ≡ true → IsTilingOf d (names v T) → IsTiling v T
shows_from v d T wn s up low c =
    let here : (n : ℕ) (x : Placement) → In n T → slice_get v.placements n ≡ Some x → Contains (names v T) x = λ n x i e. in_contains (names v T) x (in_names v T n x i e) in
    record {
      up = up;
      placed = λ n i.
          let x = is_given v T low n i in
          let r = (s.places x.0).1 (c.inside x.0 (here n x.0 i x.1)) in
          subst (λ m. In m v.live) (same_number v wn r.number n x.0 r.names x.1) (contains_in v.live r.number r.stands);
      apart = λ p q i j. false_from_ne_true (conflicts v p q) (λ k.
          let x = is_given v T low p i in
          let y = is_given v T low q j in
          c.free x.0 y.0 (here p x.0 i x.1) (here q y.0 j y.1) (conflict_of_numbers v wn p q x.0 y.0 x.1 y.1 k));
      enough = λ i. omega (arith, names_count v i T, c.least i, shown_least v d s i);
      few = λ i. omega (arith, names_count v i T, c.most i, shown_most v d s i);
      pinned = λ n i.
          let x = pin_given v wn n i in
          let q = names_in v T x.0 (contains_in (names v T) x.0 (c.pinned x.0 ((s.pins x.0).0 (named_of v v.pins n x.0 i x.1)))) in
          subst (λ m. In m T) (same_number v wn q.0 n x.0 q.2 x.1) q.1;
    }

pub numbers_show_lem : NumbersShow
numbers_show_lem v d T wn s up low = (λ t. shows_to v d T wn s (parts v T t), λ c. whole v T (shows_from v d T wn s up low c))
