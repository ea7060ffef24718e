-- The order of numbers by what they name, and what a later view keeps of it.
use Rattle.std.proofs.Common.{List, None, Option, Some, [], ap, false, length, nat_lt, refl, slice_get, sym, true, ℕ, ◌<◌, ◌∙◌, ◌∷◌, ◌≡◌}
use Rattle.std.proofs.lemmas.Bool.{and_from, and_parts, ltb-true, true≢false}
use Rattle.std.specs.Cmp.{tied_itself}
use Rattle.std.specs.List.{list_all}
use Rattle.std.specs.Ordering.{is_lt}
use Rattle.poly_design.specs.declared.placement.Placement.{Placement}
use Rattle.poly_tiling.specs.Names.{Names, below, in_order, placed_below}
use Rattle.poly_tiling.specs.Puzzle.{View}
use Rattle.poly_tiling.proofs.Lists.{all_from, all_in, slice_get_front}
use Rattle.poly_tiling.proofs.Orders.{placement_total}
use Rattle.poly_tiling.proofs.Ranks.{lt_less}

placed_trans : (a b c : Option Placement) → placed_below a b ≡ true → placed_below b c ≡ true → placed_below a c ≡ true
placed_trans None b c h k = absurd (true≢false (sym h))
placed_trans (Some x) None c h k = absurd (true≢false (sym h))
placed_trans (Some x) (Some y) None h k = absurd (true≢false (sym k))
placed_trans (Some x) (Some y) (Some z) h k = ap is_lt (placement_total.trans x y z (lt_less _ h) (lt_less _ k))

pub below-trans : (v : View) (p q r : ℕ) → below v p q ≡ true → below v q r ≡ true → below v p r ≡ true
below-trans v p q r h k = placed_trans (slice_get v.placements p) (slice_get v.placements q) (slice_get v.placements r) h k

placed_self : (o : Option Placement) → placed_below o o ≡ false
placed_self None = refl
placed_self (Some x) = ap is_lt (tied_itself placement_total x)

pub below_self : (v : View) (p : ℕ) → below v p p ≡ false
below_self v p = placed_self (slice_get v.placements p)

-- a later view names the same placements by the numbers of an earlier view, so these numbers keep their order
pub slot_same : (old new : View) → Names old new → (p : ℕ) → p < length old.placements → slice_get new.placements p ≡ slice_get old.placements p
slot_same old new names p h = ap (λ xs. slice_get xs p) names.1 ∙ slice_get_front old.placements names.0 p h

below_same : (old new : View) → Names old new → (p q : ℕ) → p < length old.placements → q < length old.placements → below new p q ≡ below old p q
below_same old new names p q hp hq =
    ap (λ o. placed_below o (slice_get new.placements q)) (slot_same old new names p hp) ∙ ap (λ o. placed_below (slice_get old.placements p) o) (slot_same old new names q hq)

pub order_kept : (old new : View) → Names old new → (ps : List ℕ) → list_all (λ p. nat_lt p (length old.placements)) ps ≡ true → in_order old ps ≡ true → in_order new ps ≡ true
order_kept old new names [] h up = refl
order_kept old new names (p ∷ ps) h up =
    let hs = and_parts (nat_lt p (length old.placements)) (list_all (λ q. nat_lt q (length old.placements)) ps) h in
    let ups = and_parts (list_all (λ q. below old p q) ps) (in_order old ps) up in
    and_from _ _
    (all_from (λ q. below new p q) ps (λ q i.
    below_same old new names p q (ltb-true _ _ hs.0) (ltb-true _ _ (all_in (λ r. nat_lt r (length old.placements)) ps hs.1 q i)) ∙ all_in (λ r. below old p r) ps ups.0 q i))
    (order_kept old new names ps hs.1 ups.1)
