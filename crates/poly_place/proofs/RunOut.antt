-- If numbers run out for a design's placements, or for its pins after these, then the design and the placements that have
-- numbers need more numbers than there are.
use Rattle.std.proofs.Common.{Err, IsErrAnd, List, Ok, Result, inl, inr, subst, ◌≡◌}
use Rattle.std.specs.List.{Contains}
use Rattle.std.proofs.lemmas.List.Elements.{Contains-append_cases}
use Rattle.poly_grid.specs.declared.refusal.Refusal.{Refusal}
use Rattle.poly_grid.specs.declared.refusal.Refusal.TheVariants.{Spent}
use Rattle.poly_design.specs.Layout.{Layout}
use Rattle.poly_design.specs.declared.placement.Placement.{Placement}
use Rattle.poly_design.specs.Placements.{IsPlacement}
use Rattle.poly_tiling.specs.Tilings.{IsPin}
use Rattle.poly_place.specs.Interned.{AreTooMany, GoesOnWith}
use Rattle.poly_place.specs.Spent.{IsSpent}

pub spent_places : (d : Layout) (old list : List Placement) → ((p : Placement) → Contains list p → IsPlacement d p) → AreTooMany old list → IsSpent old d
spent_places d old list are many = record {
  all = many.all;
  apart = many.apart;
  among = λ p h. elim (many.among p h) [ inl o ↦ inl o | inr n ↦ inr (inl (are p n)) ];
  many = many.many;
}

pub spent_pins : (d : Layout) (old between first list : List Placement) → ((p : Placement) → Contains first p → IsPlacement d p) → ((p : Placement) → Contains list p → IsPin d p) →
    GoesOnWith old first between → AreTooMany between list → IsSpent old d
spent_pins d old between first list are pinned g many = record {
  all = many.all;
  apart = many.apart;
  among = λ p h. elim (many.among p h) [
    | inl b ↦ elim (Contains-append_cases old g.more p (subst (λ (l : List Placement). Contains l p) g.appended b)) [
      | inl o ↦ inl o
      | inr m ↦ inr (inl (are p (g.lacked p m).1))
    ]
    | inr n ↦ inr (inr (pinned p n))
  ];
  many = many.many;
}

-- a refusal that `?` passes on stays as it is
pub passed_on : {X : Type 0} (r : Result X Refusal) (e : Refusal) → IsErrAnd r (λ y. y ≡ e) → r ≡ Err Spent → e ≡ Spent
passed_on (Ok x) e h s = absurd h
passed_on (Err y) e h s = cc
