-- The differences of a change by the numbers of its two views.
use Rattle.std.proofs.Common.{List, Some, ap, filter, length, ltb, not, slice_get, subst, sym, true, ℕ, ◌&&◌, ◌∙◌, ◌≡◌, ◌↔◌}
use Rattle.std.proofs.lemmas.Bool.{and_from, and_parts, both_ways, false_from_ne_true, lt-ltb, not-true, not_from_false}
use Rattle.poly_design.specs.Layout.{Layout}
use Rattle.poly_design.specs.Limits.{IsDesign}
use Rattle.poly_design.specs.Placements.{IsPlacement}
use Rattle.poly_design.specs.declared.placement.Placement.{Placement}
use Rattle.poly_tiling.specs.Lists.{mem}
use Rattle.poly_tiling.specs.Names.{Grown, Names, WellNamed, in_order}
use Rattle.poly_tiling.specs.Puzzle.{View}
use Rattle.poly_tiling.specs.Shows.{IsNamed, given}
use Rattle.poly_tiling.specs.Tilings.{IsPin}
use Rattle.poly_tiling.proofs.Below.{order_kept}
use Rattle.poly_tiling.proofs.Contained.{contains_in, get_low}
use Rattle.poly_tiling.proofs.Designs.{same_order}
use Rattle.poly_tiling.proofs.Grown.{names_on}
use Rattle.poly_tiling.proofs.Lists.{In, all_from, filter_in, in_filter, in_mem, mem_in, same_truth, slice_get_front}
use Rattle.poly_tiling.proofs.Shown.{is_given, live_given, named_of, pin_given, same_number, some_same}
use Rattle.poly_place.specs.Between.{IsChangeOf}
use Rattle.poly_place.specs.Delta.{AreNumbersFor, IsPlanFor}
use Rattle.poly_place.specs.Right.{IsRight}
use Rattle.poly_place.specs.declared.delta.Delta.{Delta}
use Rattle.poly_place.proofs.Differences.{in_order_filter}

-- if A names what satisfies P, and B names what satisfies Q, then a list that names what satisfies P and not Q has exactly
-- the numbers that A has and B lacks
pub differ : (v : View) → WellNamed v → (A B list : List ℕ) (P Q : Placement → Type 0) → ((p : Placement) → IsNamed v A p ↔ P p) → ((p : Placement) → IsNamed v B p ↔ Q p) →
    ((p : Placement) → IsNamed v list p ↔ (P p × (¬ Q p))) → given v A ≡ true → given v list ≡ true → (n : ℕ) → mem list n ≡ (mem A n && not (mem B n))
differ v wn A B list P Q a b l ga gl n = same_truth (mem list n) (mem A n && not (mem B n))
    (λ m.
    let i = mem_in list n m in
    let x = is_given v list gl n i in
    let h = (l x.0).0 (named_of v list n x.0 i x.1) in
    let r = (a x.0).1 h.0 in
    and_from (mem A n) (not (mem B n))
    (in_mem A n (subst (λ z. In z A) (same_number v wn r.number n x.0 r.names x.1) (contains_in A r.number r.stands)))
    (not_from_false (mem B n) (false_from_ne_true (mem B n) (λ k. h.1 ((b x.0).0 (named_of v B n x.0 (mem_in B n k) x.1))))))
    (λ m.
    let hs = and_parts (mem A n) (not (mem B n)) m in
    let i = mem_in A n hs.0 in
    let x = is_given v A ga n i in
    let here = (a x.0).0 (named_of v A n x.0 i x.1) in
    let r = (l x.0).1 (
      here,
      λ q.
          let s = (b x.0).1 q in
          both_ways (mem B n) (not-true (mem B n) hs.1) (in_mem B n (subst (λ z. In z B) (same_number v wn s.number n x.0 s.names x.1) (contains_in B s.number s.stands))),
    ) in
    in_mem list n (subst (λ z. In z list) (same_number v wn r.number n x.0 r.names x.1) (contains_in list r.number r.stands)))

pub later : (t v : View) → Names t v → (n : ℕ) (p : Placement) → slice_get t.placements n ≡ Some p → slice_get v.placements n ≡ Some p
later t v names n p e = ap (λ xs. slice_get xs n) names.1 ∙ slice_get_front t.placements names.0 n (get_low t.placements n p e) ∙ e

-- old numbers name the same placements in the later view
pub carried : (t v : View) → Names t v → (ns : List ℕ) → ((n : ℕ) → In n ns → (x : Placement) × (slice_get t.placements n ≡ Some x)) → (P : Placement → Type 0) →
    ((p : Placement) → IsNamed t ns p ↔ P p) → (p : Placement) → IsNamed v ns p ↔ P p
carried t v names ns low P h p = (
  λ r.
      let x = low r.number (contains_in ns r.number r.stands) in
      let same : x.0 ≡ p = some_same x.0 p (sym (later t v names r.number x.0 x.1) ∙ r.names) in
      (h p).0 (record { number = r.number; stands = r.stands; names = x.1 ∙ ap Some same }),
  λ q.
      let r = (h p).1 q in
      record { number = r.number; stands = r.stands; names = later t v names r.number p r.names },
)

pub carried_given : (t v : View) → Names t v → (ns : List ℕ) → ((n : ℕ) → In n ns → (x : Placement) × (slice_get t.placements n ≡ Some x)) → given v ns ≡ true
carried_given t v names ns low = all_from (λ n. ltb n (length v.placements)) ns (λ n i. let x = low n i in lt-ltb n (length v.placements) (get_low v.placements n x.0 (later t v names n x.0 x.1)))

-- if A names what satisfies P, and B names what satisfies Q, then the numbers of the placements that satisfy P and not Q, in
-- order, are the numbers that A has and B lacks
rest_is : (v : View) → WellNamed v → (A B list : List ℕ) (P Q : Placement → Type 0) → ((p : Placement) → IsNamed v A p ↔ P p) → ((p : Placement) → IsNamed v B p ↔ Q p) →
    AreNumbersFor v (λ p. P p × (¬ Q p)) list → given v A ≡ true → in_order v A ≡ true → list ≡ filter (λ n. not (mem B n)) A
rest_is v wn A B list P Q a b l ga up =
    let keep = λ (n : ℕ). not (mem B n) in
    let are = differ v wn A B list P Q a b l.exact ga l.given_out in
    same_order v list (filter keep A) l.up (in_order_filter v keep A up)
    (λ n i. let hs = and_parts (mem A n) (not (mem B n)) (sym (are n) ∙ in_mem list n i) in in_filter keep A n (mem_in A n hs.0) hs.1)
    (λ n i. let r = filter_in keep A n i in mem_in list n (are n ∙ and_from (mem A n) (not (mem B n)) (in_mem A n r.0) r.1))

module _ (v w : View) (x : Delta) (c : IsChangeOf v w x) where
  was_live : (p : Placement) → IsNamed w v.live p ↔ IsPlacement c.before p
  was_live = carried v w c.names v.live (live_given v c.shown.well) (IsPlacement c.before) c.shown.shows.places

  was_pinned : (p : Placement) → IsNamed w v.pins p ↔ IsPin c.before p
  was_pinned = carried v w c.names v.pins (pin_given v c.shown.well) (IsPin c.before) c.shown.shows.pins

  low_live : given w v.live ≡ true
  low_live = carried_given v w c.names v.live (live_given v c.shown.well)

  low_pins : given w v.pins ≡ true
  low_pins = carried_given v w c.names v.pins (pin_given v c.shown.well)

  pub fresh_is : x.fresh.items ≡ filter (λ n. not (mem v.live n)) w.live
  fresh_is = rest_is w c.updated.well w.live v.live x.fresh.items (IsPlacement c.after) (IsPlacement c.before) c.updated.shows.places was_live c.delta.fresh c.updated.well.named c.updated.well.live_up

  pub gone_is : x.gone.items ≡ filter (λ n. not (mem w.live n)) v.live
  gone_is = rest_is w c.updated.well v.live w.live x.gone.items (IsPlacement c.before) (IsPlacement c.after) was_live c.updated.shows.places c.delta.gone low_live
      (order_kept v w c.names v.live c.shown.well.named c.shown.well.live_up)

  pub pinned_is : x.pinned.items ≡ filter (λ n. not (mem v.pins n)) w.pins
  pinned_is = rest_is w c.updated.well w.pins v.pins x.pinned.items (IsPin c.after) (IsPin c.before) c.updated.shows.pins was_pinned c.delta.pinned c.updated.well.pins_named c.updated.well.pins_up

  pub unpinned_is : x.unpinned.items ≡ filter (λ n. not (mem w.pins n)) v.pins
  unpinned_is = rest_is w c.updated.well v.pins w.pins x.unpinned.items (IsPin c.before) (IsPin c.after) was_pinned c.updated.shows.pins c.delta.unpinned low_pins
      (order_kept v w c.names v.pins c.shown.well.pins_named c.shown.well.pins_up)

-- if a table has grown from a view, a plan of the table describes the change from this view to the plan's view
pub planned_change : (v t w : View) (before after : Layout) (x : Delta) → IsRight v before → Grown v t → IsDesign before → IsDesign after → IsPlanFor t before after w x → IsChangeOf v w x
planned_change v t w before after x right grown d e plan = record {
  before = before;
  after = after;
  shown = right;
  updated = plan.right;
  first = d;
  second = e;
  names = names_on v t w grown.0 plan.names;
  delta = plan.delta;
}
