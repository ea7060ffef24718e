-- The pins of the pieces, listed one piece after another.
use Rattle.std.proofs.Common.{List, None, Option, Some, [], ap, arith, inl, inr, length, option_to_list, refl, subst, sym, ℕ, ◌++◌, ◌∙◌, ◌∷◌, ◌≡◌, ◌≤◌, append_assoc}
use Rattle.std.specs.List.{Contains}
use Rattle.std.specs.Map.{keys_of}
use Rattle.std.specs.Option.{option_map}
use Rattle.std.specs.Ordering.{ordering_then}
use Rattle.std.specs.declared.cmp.Ordering.TheVariants.{Less}
use Rattle.std.proofs.lemmas.List.{append-nil, length-append}
use Rattle.poly_grid.specs.Spot.{Spot}
use Rattle.poly_shape.specs.Order.{IsAscending, cells_cmp}
use Rattle.poly_design.specs.Layout.{Layout}
use Rattle.poly_design.specs.Listed.{IsListOf}
use Rattle.poly_design.specs.Name.{name_cmp}
use Rattle.poly_design.specs.PlacementOrder.{placement_cmp}
use Rattle.poly_design.specs.declared.placement.Placement.{Placement}
use Rattle.poly_design.specs.declared.spec.Spec.{Spec}
use Rattle.poly_tiling.specs.Tilings.{IsPin}
use Rattle.poly_tiling.proofs.Contained.{contains_in, in_contains, pairs_cons, pairs_head, pairs_none, pairs_rest}
use Rattle.poly_tiling.proofs.Lists.{In, in_append_cases, in_append_left, in_append_right, in_map}
use Rattle.poly_place.specs.Pins.{pin_list}

abbrev pub Entry : Type 0
Entry = List ℕ × Spec

abbrev pub pins_in : List Entry → List Placement
pins_in [] = []
pins_in (e ∷ es) = pin_list e ++ pins_in es

abbrev pinned : List ℕ → List Spot → Placement
pinned name k = record { name = name; cells = k }

-- the pin of one more piece is added
pub pins_more : (pins pins' : List Placement) (rest rest' whole : List Entry) (e : Entry) → pins ++ pins_in rest ≡ pins_in whole → rest ≡ e ∷ rest' → pins' ≡ pins ++ pin_list e → pins' ++ pins_in rest' ≡ pins_in whole
pins_more pins pins' rest rest' whole e before is added = ap (λ l. l ++ pins_in rest') added ∙ append_assoc pins (pin_list e) (pins_in rest') ∙ ap (λ r. pins ++ pins_in r) (sym is) ∙ before

pub pins_all : (pins : List Placement) (rest whole : List Entry) → pins ++ pins_in rest ≡ pins_in whole → rest ≡ [] → pins ≡ pins_in whole
pins_all pins rest whole before is = sym (append-nil pins) ∙ ap (λ r. pins ++ pins_in r) (sym is) ∙ before

-- the entry that a pin belongs to
record IsOf (p : Placement) (es : List Entry) : Type 0 where
  entry : Entry
  stands : In entry es
  name : entry.0 ≡ p.name
  pin : entry.1.pin ≡ Some p.cells

of_list : (e : Entry) (p : Placement) (o : Option (List Spot)) → e.1.pin ≡ o → In p (option_to_list (option_map (λ k. pinned e.0 k) o)) → (e.0 ≡ p.name) × (e.1.pin ≡ Some p.cells)
of_list e p None is h = absurd h
of_list e p (Some k) is (inl same) = (ap (λ (q : Placement). q.name) same, is ∙ ap (λ (q : Placement). Some q.cells) same)
of_list e p (Some k) is (inr h) = absurd h

of_entry : (es : List Entry) (p : Placement) → In p (pins_in es) → IsOf p es
of_entry [] p h = absurd h
of_entry (e ∷ es) p h = elim (in_append_cases p (pin_list e) (pins_in es) h) [
  | inl here ↦ let r = of_list e p e.1.pin refl here in record { entry = e; stands = inl refl; name = r.0; pin = r.1 }
  | inr later ↦ let r = of_entry es p later in record { entry = r.entry; stands = inr r.stands; name = r.name; pin = r.pin }
]

in_list : (e : Entry) (k : List Spot) → e.1.pin ≡ Some k → In (pinned e.0 k) (pin_list e)
in_list e k is = let l : option_to_list (option_map (λ k. pinned e.0 k) e.1.pin) ≡ pinned e.0 k ∷ [] = ap (λ o. option_to_list (option_map (λ k. pinned e.0 k) o)) is in
    subst (λ xs. In (pinned e.0 k) xs) (sym l) (inl refl)

in_pins : (es : List Entry) (e : Entry) (k : List Spot) → In e es → e.1.pin ≡ Some k → In (pinned e.0 k) (pins_in es)
in_pins [] e k h is = absurd h
in_pins (x ∷ es) e k (inl same) is = in_append_left (pinned e.0 k) (pin_list x) (pins_in es) (subst (λ y. In (pinned e.0 k) (pin_list y)) (sym same) (in_list e k is))
in_pins (x ∷ es) e k (inr h) is = in_append_right (pinned e.0 k) (pin_list x) (pins_in es) (in_pins es e k h is)

up_at : (name : List ℕ) (ps : List Placement) (o : Option (List Spot)) → ((p : Placement) → In p ps → name_cmp name p.name ≡ Less) → IsAscending placement_cmp ps
    → IsAscending placement_cmp (option_to_list (option_map (λ k. pinned name k) o) ++ ps)
up_at name ps None less up = up
up_at name ps (Some k) less up = pairs_cons (λ a b. placement_cmp a b ≡ Less) (pinned name k) ps (λ p i. ap (λ o. ordering_then o (cells_cmp k p.cells)) (less p i)) up

pins_up : (es : List Entry) → IsAscending name_cmp (keys_of es) → IsAscending placement_cmp (pins_in es)
pins_up [] up = pairs_none (λ a b. placement_cmp a b ≡ Less)
pins_up (e ∷ es) up = up_at e.0 (pins_in es) e.1.pin
    (λ p i. let r = of_entry es p i in subst (λ n. name_cmp e.0 n ≡ Less) r.name (pairs_head (λ a b. name_cmp a b ≡ Less) e.0 (keys_of es) up r.entry.0 (in_map (λ (x : Entry). x.0) es r.entry r.stands)))
    (pins_up es (pairs_rest (λ a b. name_cmp a b ≡ Less) e.0 (keys_of es) up))

few_at : (name : List ℕ) (o : Option (List Spot)) → length (option_to_list (option_map (λ k. pinned name k) o)) ≤ 1
few_at name None = omega arith
few_at name (Some k) = omega arith

pub few_pins : (es : List Entry) → length (pins_in es) ≤ length es
few_pins [] = omega arith
few_pins (e ∷ es) = omega (arith, length-append (pin_list e) (pins_in es), few_at e.0 e.1.pin, few_pins es)

pub pins_listed : (d : Layout) → IsAscending name_cmp (keys_of d.pieces) → IsListOf placement_cmp (IsPin d) (pins_in d.pieces)
pins_listed d up = record {
  ascending = pins_up d.pieces up;
  exact = λ p. (
    λ h. let r = of_entry d.pieces p (contains_in (pins_in d.pieces) p h) in
        let same : r.entry ≡ (p.name, r.entry.1) = λ i. (r.name i, r.entry.1) in
        record { spec = r.entry.1; has = subst (λ e. Contains d.pieces e) same (in_contains d.pieces r.entry r.stands); pinned = r.pin },
    λ h. in_contains (pins_in d.pieces) p (in_pins d.pieces (p.name, h.spec) p.cells (contains_in d.pieces (p.name, h.spec) h.has) h.pinned),
  );
}
