-- New numbers go to placements, and then to pins that are no placements.
use Rattle.std.proofs.Common.{List, [], ap, arith, sym, ℕ, ◌++◌, ◌∙◌, ◌≡◌}
use Rattle.std.proofs.lemmas.List.{append-nil}
use Rattle.std.specs.List.{Contains}
use Rattle.poly_shape.specs.Order.{IsAscending}
use Rattle.poly_design.specs.Layout.{Layout}
use Rattle.poly_design.specs.Listed.{IsListOf}
use Rattle.poly_design.specs.PlacementOrder.{placement_cmp}
use Rattle.poly_design.specs.Placements.{IsPlacement}
use Rattle.poly_design.specs.declared.placement.Placement.{Placement}
use Rattle.poly_tiling.specs.Tilings.{IsPin}
use Rattle.poly_tiling.proofs.Contained.{contains_in, get_in, in_contains}
use Rattle.poly_place.specs.Delta.{GivesInOrder}
use Rattle.poly_place.specs.Interned.{AreNumbersOf, GoesOnWith}
use Rattle.poly_place.proofs.Righted.{in_number}

none_there : (p : Placement) → Contains [] p → ⊥
none_there p h = omega (arith, h.1)

-- no number is given
pub order_none : (d : Layout) (old new : List Placement) → new ≡ old → GivesInOrder d old new
order_none d old new e = record {
  places = [];
  pins = [];
  all = e ∙ sym (append-nil old) ∙ sym (append-nil (old ++ []));
  places_up = λ i j x l m. absurd (omega arith);
  are_places = λ p h. absurd (none_there p h);
  pins_up = λ i j x l m. absurd (omega arith);
  are_pins = λ p h. absurd (none_there p h);
}

-- numbers are given to placements alone
pub order_places : (d : Layout) (found old between new : List Placement) → IsAscending placement_cmp found → ((p : Placement) → Contains found p → IsPlacement d p) → GoesOnWith old found between → new ≡ between → GivesInOrder d old new
order_places d found old between new up are a e = record {
  places = a.more;
  pins = [];
  all = e ∙ a.appended ∙ sym (append-nil (old ++ a.more));
  places_up = a.ordered up;
  are_places = λ p h. are p (a.lacked p h).1;
  pins_up = λ i j x l m. absurd (omega arith);
  are_pins = λ p h. absurd (none_there p h);
}

-- once each placement has its number, only pins that are no placements are given one
pub order_pins : (d : Layout) (found pins old between new : List Placement) → IsAscending placement_cmp found → ((p : Placement) → Contains found p → IsPlacement d p) → ((p : Placement) → IsPlacement d p → Contains between p) → IsListOf placement_cmp (IsPin d) pins →
    GoesOnWith old found between → GoesOnWith between pins new → GivesInOrder d old new
order_pins d found pins old between new up are all m a b = record {
  places = a.more;
  pins = b.more;
  all = b.appended ∙ ap (λ l. l ++ b.more) a.appended;
  places_up = a.ordered up;
  are_places = λ p h. are p (a.lacked p h).1;
  pins_up = b.ordered m.ascending;
  are_pins = λ p h. let r = b.lacked p h in ((m.exact p).0 r.1, λ q. r.0 (all p q));
}

-- a placement that has a number is among those that were given one
pub has_number : (all : List Placement) (ns : List ℕ) (ps : List Placement) → AreNumbersOf all ns ps → (p : Placement) → Contains ps p → Contains all p
has_number all ns ps e p h = let r = in_number all ns ps e p (contains_in ps p h) in in_contains all p (get_in all r.0 p r.2)
