-- Numbers in the order of their placements have no repeats.
use Rattle.std.proofs.Common.{List, None, Option, Some, [], ap, cond, eqb, false, refl, slice_get, subst, sym, true, ℕ, ◌∷◌, ◌≡◌}
use Rattle.std.proofs.lemmas.Bool.{and_from, and_parts, both_ways, ne_eqb}
use Rattle.std.specs.List.{list_all}
use Rattle.std.specs.Ordering.{is_lt}
use Rattle.std.specs.Cmp.{tied_itself}
pub use Rattle.poly_design.specs.PlacementOrder.{placement_total}
use Rattle.poly_design.specs.declared.placement.Placement.{Placement}
use Rattle.poly_tiling.specs.Lists.{distinct}
use Rattle.poly_tiling.specs.Puzzle.{View}
use Rattle.poly_tiling.specs.Names.{WellNamed, below, in_order, placed_below}
use Rattle.poly_tiling.proofs.Lists.{all_from, all_in}

never_below : (o : Option Placement) → placed_below o o ≡ false
never_below None = refl
never_below (Some x) = ap is_lt (tied_itself placement_total x)

below_other : (v : View) (p q : ℕ) → below v p q ≡ true → p ≡ q → ⊥
below_other v p q h e = both_ways (placed_below (slice_get v.placements p) (slice_get v.placements p)) (never_below (slice_get v.placements p))
    (subst (λ n. placed_below (slice_get v.placements p) (slice_get v.placements n) ≡ true) (sym e) h)

pub in_order_once : (v : View) (ps : List ℕ) → in_order v ps ≡ true → distinct ps ≡ true
in_order_once v [] h = refl
in_order_once v (p ∷ ps) h =
    let hs = and_parts (list_all (λ q. below v p q) ps) (in_order v ps) h in
    and_from _ _
    (all_from (λ y. cond (eqb p y) false true) ps (λ q i. ap (λ b. cond b false true) (ne_eqb p q (below_other v p q (all_in (λ q. below v p q) ps hs.0 q i)))))
    (in_order_once v ps hs.1)

-- each live number occurs once, and so does each pin
pub live_once : (v : View) → WellNamed v → distinct v.live ≡ true
live_once v w = in_order_once v v.live w.live_up

pub pins_once : (v : View) → WellNamed v → distinct v.pins ≡ true
pins_once v w = in_order_once v v.pins w.pins_up
