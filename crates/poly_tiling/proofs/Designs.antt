-- If two views show the same design, and the later one names what the earlier one names, by the same numbers, then the later
-- view is the earlier one, perhaps with more numbers.
use Rattle.std.proofs.Common.{List, Some, [], ap, inl, inr, refl, slice_get, subst, sym, true, ℕ, ◌∙◌, ◌∷◌, ◌≡◌}
use Rattle.std.proofs.lemmas.Bool.{and_parts, both_ways}
use Rattle.std.specs.List.{list_all}
use Rattle.poly_design.specs.Layout.{Layout}
use Rattle.poly_design.specs.declared.placement.Placement.{Placement}
use Rattle.poly_tiling.specs.Puzzle.{View}
use Rattle.poly_tiling.specs.Names.{Grown, Names, WellNamed, below, in_order}
use Rattle.poly_tiling.specs.Shows.{IsNamed, Shows}
use Rattle.poly_tiling.proofs.Lists.{In, all_in, slice_get_front}
use Rattle.poly_tiling.proofs.Contained.{contains_in, get_low}
use Rattle.poly_tiling.proofs.Shown.{live_given, named_of, pin_given, same_number}
use Rattle.poly_tiling.proofs.Below.{below-trans, below_self, order_kept}

-- two lists of numbers are equal if both are in placement order and they have the same members
pub same_order : (v : View) (xs ys : List ℕ) → in_order v xs ≡ true → in_order v ys ≡ true → ((n : ℕ) → In n xs → In n ys) → ((n : ℕ) → In n ys → In n xs) → xs ≡ ys
same_order v [] [] a b f g = refl
same_order v [] (y ∷ ys) a b f g = absurd (g y (inl refl))
same_order v (x ∷ xs) [] a b f g = absurd (f x (inl refl))
same_order v (x ∷ xs) (y ∷ ys) a b f g =
    let xa = and_parts (list_all (λ q. below v x q) xs) (in_order v xs) a in
    let bs = and_parts (list_all (λ q. below v y q) ys) (in_order v ys) b in
    let low_x : (n : ℕ) → In n xs → below v x n ≡ true = all_in (λ q. below v x q) xs xa.0 in
    let low_y : (n : ℕ) → In n ys → below v y n ≡ true = all_in (λ q. below v y q) ys bs.0 in
    let no : (n : ℕ) → below v n n ≡ true → ⊥ = λ n h. both_ways (below v n n) (below_self v n) h in
    let e : x ≡ y = elim (f x (inl refl)) [
      | inl k ↦ sym k
      | inr i ↦ elim (g y (inl refl)) [
        | inl k ↦ k
        | inr j ↦ absurd (no x (below-trans v x y x (low_x y j) (low_y x i)))
      ]
    ] in
    let rest : xs ≡ ys = same_order v xs ys xa.1 bs.1
    (λ n i. elim (f n (inr i)) [ inl k ↦ absurd (no x (subst (λ m. below v x m ≡ true) (sym (e ∙ k)) (low_x n i))) | inr j ↦ j ])
    (λ n j. elim (g n (inr j)) [ inl k ↦ absurd (no y (subst (λ m. below v y m ≡ true) (sym (sym e ∙ k)) (low_y n j))) | inr i ↦ i ]) in
    λ i. e i ∷ rest i

-- if the numbers ms of the later view name all that the numbers ns of the earlier one name, then ms has all of ns
members_there : (v w : View) (ns ms : List ℕ) → Names v w → WellNamed w → ((n : ℕ) → In n ns → (p : Placement) × (slice_get v.placements n ≡ Some p)) →
    ((p : Placement) → IsNamed v ns p → IsNamed w ms p) → (n : ℕ) → In n ns → In n ms
members_there v w ns ms names wn given to n i =
    let p = given n i in
    let m = to p.0 (named_of v ns n p.0 i p.1) in
    let there : slice_get w.placements n ≡ Some p.0 = ap (λ xs. slice_get xs n) names.1 ∙ slice_get_front v.placements names.0 n (get_low v.placements n p.0 p.1) ∙ p.1 in
    let e : m.number ≡ n = same_number w wn m.number n p.0 m.names there in
    subst (λ k. In k ms) e (contains_in ms m.number m.stands)

members_back : (v w : View) (ns ms : List ℕ) → Names v w → WellNamed w → ((n : ℕ) → In n ms → (p : Placement) × (slice_get w.placements n ≡ Some p)) →
    ((p : Placement) → IsNamed w ms p → IsNamed v ns p) → (n : ℕ) → In n ms → In n ns
members_back v w ns ms names wn given to n i =
    let p = given n i in
    let m = to p.0 (named_of w ms n p.0 i p.1) in
    let there : slice_get w.placements m.number ≡ Some p.0 = ap (λ xs. slice_get xs m.number) names.1 ∙ slice_get_front v.placements names.0 m.number (get_low v.placements m.number p.0 m.names) ∙ m.names in
    let e : m.number ≡ n = same_number w wn m.number n p.0 there p.1 in
    subst (λ k. In k ns) e (contains_in ns m.number m.stands)

pub same_design : (v w : View) (d : Layout) → WellNamed v → WellNamed w → Shows v d → Shows w d → Names v w → Grown v w
same_design v w d wv ww a b names = (
  names,
  same_order w w.live v.live ww.live_up (order_kept v w names v.live wv.named wv.live_up)
      (members_back v w v.live w.live names ww (live_given w ww) (λ p n. (a.places p).1 ((b.places p).0 n)))
      (members_there v w v.live w.live names ww (live_given v wv) (λ p n. (b.places p).1 ((a.places p).0 n))),
  b.bounds ∙ sym a.bounds,
  same_order w w.pins v.pins ww.pins_up (order_kept v w names v.pins wv.pins_named wv.pins_up)
      (members_back v w v.pins w.pins names ww (pin_given w ww) (λ p n. (a.pins p).1 ((b.pins p).0 n)))
      (members_there v w v.pins w.pins names ww (pin_given v wv) (λ p n. (b.pins p).1 ((a.pins p).0 n))),
)
