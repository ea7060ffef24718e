-- The differences between two numbered designs are the differences between the designs.
use Rattle.std.proofs.Common.{List, ap, filter, map, refl, subst, sym, true, ℕ, ◌∙◌, ◌≡◌, ◌↔◌}
use Rattle.std.specs.Prelude.{nat_lt}
use Rattle.std.specs.List.{filter_map}
use Rattle.poly_design.specs.Layout.{Layout}
use Rattle.poly_design.specs.Listed.{IsListOf}
use Rattle.poly_design.specs.Name.{name_cmp}
use Rattle.poly_design.specs.Placements.{IsPlacement}
use Rattle.poly_design.specs.declared.placement.Placement.{Placement}
use Rattle.poly_tiling.specs.Names.{WellNamed, item_cmp, items_ascend}
use Rattle.poly_tiling.specs.declared.bound.Bound.{Bound}
use Rattle.poly_tiling.specs.Puzzle.{bound_in}
use Rattle.poly_tiling.specs.Shows.{IsNamed, Shows, item_bounds}
use Rattle.poly_tiling.specs.Tilings.{IsPin}
use Rattle.poly_place.specs.declared.delta.Delta.{Delta}
use Rattle.poly_place.specs.declared.numbered.Numbered.{Numbered}
use Rattle.poly_place.specs.Delta.{AreNumbersFor, IsDelta, LeastRises, MostFalls}
use Rattle.poly_place.specs.Differences.{AreDifferences}
use Rattle.poly_place.specs.Falls.{falls}
use Rattle.poly_place.specs.Numbered.{numbered_view}
use Rattle.poly_place.proofs.Differences.{fallen_for, others, risen_for}
use Rattle.poly_place.proofs.Grow.{order_same}

risen_here : (d e : Layout) (from to : List Bound) → from ≡ item_bounds d → to ≡ item_bounds e → items_ascend to ≡ true →
    IsListOf item_cmp (LeastRises d e) (map (λ b. b.item) (filter (λ b. nat_lt (bound_in from b.item (λ c. c.least)) b.least) to))
risen_here d e from to a b up =
    subst (λ (f : List Bound). IsListOf item_cmp (LeastRises d e) (map (λ b. b.item) (filter (λ b. nat_lt (bound_in f b.item (λ c. c.least)) b.least) to))) (sym a)
    (subst (λ (t : List Bound). IsListOf item_cmp (LeastRises d e) (map (λ b. b.item) (filter (λ b. nat_lt (bound_in (item_bounds d) b.item (λ c. c.least)) b.least) t))) (sym b)
    (risen_for d e (ap items_ascend (sym b) ∙ up)))

fallen_here : (d e : Layout) (from to : List Bound) → from ≡ item_bounds d → to ≡ item_bounds e → items_ascend from ≡ true → IsListOf name_cmp (MostFalls d e) (filter_map (falls to) from)
fallen_here d e from to a b up =
    subst (λ (t : List Bound). IsListOf name_cmp (MostFalls d e) (filter_map (falls t) from)) (sym b)
    (subst (λ (f : List Bound). IsListOf name_cmp (MostFalls d e) (filter_map (falls (item_bounds e)) f)) (sym a)
    (fallen_for d e (ap items_ascend (sym a) ∙ up)))

-- only the placements decide what a number names
renamed : (names : List Placement) (a b : Numbered) (ns : List ℕ) (P : Placement → Type 0) → ((p : Placement) → IsNamed (numbered_view names a) ns p ↔ P p) → (p : Placement) → IsNamed (numbered_view names b) ns p ↔ P p
renamed names a b ns P is p = (
  λ h. (is p).0 (record { number = h.number; stands = h.stands; names = h.names }),
  λ q. let o = (is p).1 q in record { number = o.number; stands = o.stands; names = o.names },
)

pub delta_for : (names : List Placement) (old new : Numbered) (before after : Layout) (x : Delta) → WellNamed (numbered_view names old) → WellNamed (numbered_view names new) →
    Shows (numbered_view names old) before → Shows (numbered_view names new) after → AreDifferences old new x → IsDelta (numbered_view names new) before after x
delta_for names old new before after x w v s t are =
    let view = numbered_view names new in
    let live = renamed names old new old.live.items (IsPlacement before) s.places in
    let pins = renamed names old new old.pins.items (IsPin before) s.pins in
    record {
      gone = subst (λ (l : List ℕ). AreNumbersFor view (λ p. IsPlacement before p × (¬ IsPlacement after p)) l) (sym are.gone)
          (others view v.apart old.live.items new.live.items (IsPlacement before) (IsPlacement after) live t.places w.named (order_same (numbered_view names old) view old.live.items (λ n i. refl) ∙ w.live_up));
      fresh = subst (λ (l : List ℕ). AreNumbersFor view (λ p. IsPlacement after p × (¬ IsPlacement before p)) l) (sym are.fresh)
          (others view v.apart new.live.items old.live.items (IsPlacement after) (IsPlacement before) t.places live v.named v.live_up);
      needed = subst (λ l. IsListOf item_cmp (LeastRises before after) l) (sym are.needed) (risen_here before after old.bounds.items new.bounds.items s.bounds t.bounds v.items_up);
      unneeded = subst (λ l. IsListOf item_cmp (LeastRises after before) l) (sym are.unneeded) (risen_here after before new.bounds.items old.bounds.items t.bounds s.bounds w.items_up);
      narrowed = subst (λ l. IsListOf name_cmp (MostFalls before after) l) (sym are.narrowed) (fallen_here before after old.bounds.items new.bounds.items s.bounds t.bounds w.items_up);
      widened = subst (λ l. IsListOf name_cmp (MostFalls after before) l) (sym are.widened) (fallen_here after before new.bounds.items old.bounds.items t.bounds s.bounds v.items_up);
      pinned = subst (λ (l : List ℕ). AreNumbersFor view (λ p. IsPin after p × (¬ IsPin before p)) l) (sym are.pinned)
          (others view v.apart new.pins.items old.pins.items (IsPin after) (IsPin before) t.pins pins v.pins_named v.pins_up);
      unpinned = subst (λ (l : List ℕ). AreNumbersFor view (λ p. IsPin before p × (¬ IsPin after p)) l) (sym are.unpinned)
          (others view v.apart old.pins.items new.pins.items (IsPin before) (IsPin after) pins t.pins w.pins_named (order_same (numbered_view names old) view old.pins.items (λ n i. refl) ∙ w.pins_up));
    }
