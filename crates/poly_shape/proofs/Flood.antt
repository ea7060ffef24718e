-- What flooding reaches, and that it reaches all of the cells exactly if they are connected.
use Rattle.std.proofs.Common.{◌≡◌, Bool, true, false, not, List, ◌⊎◌, refl, sym, subst, inl, inr, ◌∙◌}
use mathlib.Core.Bool.{true≢false}
use Rattle.std.specs.Bool.{Decides}
use Rattle.std.specs.List.{Contains, list_any}
use Rattle.std.specs.declared.cmp.Ordering.{Ordering}
use Rattle.std.specs.declared.cmp.Ordering.TheVariants.{Less, Equal, Greater}
use Rattle.std.specs.Ordering.{is_eq}
use Rattle.std.specs.Cmp.Lexicographic.{pointwise, lists_equiv}
use Rattle.std.proofs.lemmas.Map.Views.{list_any-from_Contains, Contains-from_any}
use Rattle.poly_grid.specs.declared.grid.Grid.{Grid}
use Rattle.poly_grid.specs.Spot.{Spot}
use Rattle.poly_shape.specs.Order.{IsAscending, Adds, spot_cmp, spot_eq, spot_equiv, spot_ties, spot_total, cells_ties}
use Rattle.poly_shape.specs.Shape.{point_of}
use Rattle.poly_shape.specs.Connected.{IsClosed, IsConnected, Touches}
use Rattle.poly_shape.proofs.Ascending.{same_ascending, same_spot, same_cells}
use Rattle.poly_grid.proofs.Neighbours.{neighbours_are_mutual}

-- `reached` is what flooding from the cell `first` has reached so far
pub record IsFlood (g : Grid) (cells reached : List Spot) : Type 0 where
  pub first : Spot
  pub start : Contains reached first
  pub part : (c : Spot) → Contains reached c → Contains cells c
  pub ascending : IsAscending spot_cmp reached
  pub forced : (p : Spot → Bool) → IsClosed g cells p → p first ≡ true → (c : Spot) → Contains reached c → p c ≡ true

pub flood_more : (g : Grid) (cells reached reached' : List Spot) (c : Spot) → IsFlood g cells reached → Contains cells c → Touches g reached c
    → Adds reached c reached' → IsAscending spot_cmp reached' → IsFlood g cells reached'
flood_more g cells reached reached' c flood here touches adds up =
    record {
      first = flood.first;
      start = (adds flood.first).1 (inl flood.start);
      part = λ v there. elim ((adds v).0 there) [ inl old ↦ flood.part v old | inr is ↦ subst (Contains cells) is here ];
      ascending = up;
      forced = λ p closed at v there. elim ((adds v).0 there) [
        | inl old ↦ flood.forced p closed at v old
        | inr is ↦ subst (λ w. p w ≡ true) is (closed touches.0 c (flood.part touches.0 touches.1) here touches.2 (flood.forced p closed at touches.0 touches.1))
      ];
    }

equal_from_test : (r : Ordering) → is_eq r ≡ true → r ≡ Equal
equal_from_test Less e = absurd (true≢false (sym e))
equal_from_test Equal e = refl
equal_from_test Greater e = absurd (true≢false (sym e))

spot_eq_same : (a b : Spot) → spot_eq a b ≡ true → a ≡ b
spot_eq_same a b e = same_spot a b (equal_from_test _ (sym (spot_ties a b) ∙ e))

pub same_from_pointwise : (a b : List Spot) → pointwise spot_eq a b ≡ true → a ≡ b
same_from_pointwise a b e = same_cells a b (equal_from_test _ (sym (cells_ties a b) ∙ e))

-- `==` on sets of cells says exactly whether they are equal
pub cells_decide : (a b : List Spot) → Decides (pointwise spot_eq a b) (a ≡ b)
cells_decide a b = (same_from_pointwise a b, λ e. subst (λ v. pointwise spot_eq a v ≡ true) e ((lists_equiv spot_equiv).refl a))

not_true : (b : Bool) → not b ≡ true → b ≡ true → ⊥
not_true true e f = true≢false (sym e)
not_true false e f = true≢false (sym f)

false_or_true : (b : Bool) → (not b ≡ true) ⊎ (b ≡ true)
false_or_true true = inr refl
false_or_true false = inl refl

-- if flooding has reached every cell, the cells are connected
pub connected_from_flood : (g : Grid) (cells reached : List Spot) → IsFlood g cells reached → pointwise spot_eq reached cells ≡ true → IsConnected g cells
connected_from_flood g cells reached flood e p closed a b in_a in_b pa =
    let same : reached ≡ cells = same_from_pointwise reached cells e in
    let to : (c : Spot) → Contains cells c → Contains reached c = λ c here. subst (λ l. Contains l c) (sym same) here in
    elim (false_or_true (p flood.first)) [
      | inr passes ↦ flood.forced p closed passes b (to b in_b)
      | inl fails ↦ absurd (not_true (p a) (flood.forced (λ c. not (p c)) opposite fails a (to a in_a)) pa)
    ]
  where
    opposite : IsClosed g cells (λ c. not (p c))
    opposite u v in_u in_v step nu = elim (false_or_true (p v)) [
      | inl fails ↦ fails
      | inr passes ↦ absurd (not_true (p u) nu (closed v u in_v in_u (neighbours_are_mutual g (point_of u) (point_of v) step) passes))
    ]

abbrev is_in : List Spot → Spot → Bool
is_in reached c = list_any (spot_eq c) reached

in_from_test : (reached : List Spot) (c : Spot) → is_in reached c ≡ true → Contains reached c
in_from_test reached c e = Contains-from_any spot_eq_same c reached e

test_from_in : (reached : List Spot) (c : Spot) → Contains reached c → is_in reached c ≡ true
test_from_in reached c here = list_any-from_Contains spot_equiv c reached here

-- if the cells are connected, a flood that cannot go on has reached every cell
pub flood_from_connected : (g : Grid) (cells reached : List Spot) → IsAscending spot_cmp cells → IsFlood g cells reached
    → ((c : Spot) → Contains cells c → Touches g reached c → Contains reached c) → IsConnected g cells → pointwise spot_eq reached cells ≡ true
flood_from_connected g cells reached up flood done connected =
    let same : reached ≡ cells = same_ascending spot_total reached cells flood.ascending up flood.part all in
    subst (λ l. pointwise spot_eq reached l ≡ true) same ((lists_equiv spot_equiv).refl reached)
  where
    closed : IsClosed g cells (is_in reached)
    closed a b in_a in_b step pa = test_from_in reached b (done b in_b (a, in_from_test reached a pa, step))

    all : (c : Spot) → Contains cells c → Contains reached c
    all c here = in_from_test reached c (connected (is_in reached) closed flood.first c (flood.part flood.first flood.start) here (test_from_in reached flood.first flood.start))
