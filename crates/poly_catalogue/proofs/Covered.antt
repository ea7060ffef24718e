-- Which listed tilings cover an item.
use Rattle.std.proofs.Common.{Bool, List, [], ap, filter, inl, inr, length, subst, true, ℕ, ◌∙◌, ◌≡◌}
use Rattle.std.proofs.lemmas.Bool.{cases_lt}
use Rattle.std.proofs.lemmas.List.{get_or_past}
use Rattle.std.specs.List.{list_all, list_any}
use Rattle.poly_tiling.specs.declared.item.Item.{Item}
use Rattle.poly_tiling.specs.Lists.{mem}
use Rattle.poly_tiling.specs.Puzzle.{View, has_item, is_tiling}
use Rattle.poly_tiling.proofs.Contained.{at_in}
use Rattle.poly_tiling.proofs.Lists.{In, all_in, any_from, any_in, filter_in, in_filter, in_mem, mem_in, same_truth}
use Rattle.poly_tiling.proofs.Tilings.{parts}
use Rattle.poly_catalogue.specs.Covering.{AreCovering}
use Rattle.poly_catalogue.specs.Listed.{AreMarked}
use Rattle.poly_catalogue.specs.Rows.{row}

-- a tiling of live numbers has one of the live placements of an item exactly if one of the tiling's placements has the item
covers_same : (w : View) (i : Item) (T : List ℕ) → ((p : ℕ) → In p T → In p w.live) → list_any (λ p. mem T p) (filter (λ p. has_item w p i) w.live) ≡ list_any (λ p. has_item w p i) T
covers_same w i T placed = same_truth (list_any (λ p. mem T p) (filter (λ p. has_item w p i) w.live)) (list_any (λ p. has_item w p i) T)
    (λ h.
    let a = any_in (λ p. mem T p) (filter (λ p. has_item w p i) w.live) h in
    let b = filter_in (λ p. has_item w p i) w.live a.0 a.1 in
    any_from (λ p. has_item w p i) T a.0 (mem_in T a.0 a.2) b.1)
    (λ h.
    let a = any_in (λ p. has_item w p i) T h in
    any_from (λ p. mem T p) (filter (λ p. has_item w p i) w.live) a.0 (in_filter (λ p. has_item w p i) w.live a.0 (placed a.0 a.1) a.2) (in_mem T a.0 a.1))

no_places : (w : View) (a : List (List ℕ)) (t : ℕ) → list_all (is_tiling w) a ≡ true → (p : ℕ) → In p (row a t) → In p w.live
no_places w a t all p i = elim (cases_lt t (length a)) [
  | inl low ↦ (parts w (row a t) (all_in (is_tiling w) a all (row a t) (at_in a t [] low))).placed p i
  | inr high ↦ absurd (subst (λ z. In p z) (get_or_past a t [] high) i)
]

pub covered : (w : View) (i : Item) (a : List (List ℕ)) (numbers : List ℕ) (marks : List Bool) → list_all (is_tiling w) a ≡ true → numbers ≡ filter (λ p. has_item w p i) w.live → AreMarked a numbers marks → AreCovering w i a marks
covered w i a numbers marks all is m = record {
  long = m.long;
  exact = λ t. m.exact t ∙ ap (λ z. list_any (λ p. mem (row a t) p) z) is ∙ covers_same w i (row a t) (no_places w a t all);
}
