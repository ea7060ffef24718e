-- The numbers of the placements that a change lists again are the numbers of the change's cell or piece.
use Rattle.std.proofs.Common.{Bool, List, Some, [], ap, inl, inr, slice_get, subst, sym, true, ℕ, ◌++◌, ◌∙◌, ◌≡◌}
use Rattle.std.specs.List.Sorted.{IsPermutation}
use Rattle.std.proofs.lemmas.Bool.{both_ways}
use Rattle.std.proofs.lemmas.List.Sorted.{Contains-permutation, IsPermutation-sym}
use Rattle.poly_design.specs.Layout.{Layout}
use Rattle.poly_design.specs.Listed.{IsListOf}
use Rattle.poly_design.specs.PlacementOrder.{placement_cmp}
use Rattle.poly_design.specs.Placements.{IsPlacement}
use Rattle.poly_design.specs.declared.change.Change.{Change}
use Rattle.poly_design.specs.declared.placement.Placement.{Placement}
use Rattle.poly_tiling.specs.Names.{WellNamed}
use Rattle.poly_tiling.specs.Puzzle.{View, has_item}
use Rattle.poly_tiling.proofs.Contained.{contains_in, get_low, in_contains}
use Rattle.poly_tiling.proofs.Listings.{apart_from}
use Rattle.poly_tiling.proofs.Lists.{In, in_append_cases, in_append_right, slice_get_front}
use Rattle.poly_tiling.proofs.Reached.{not_both}
use Rattle.poly_place.specs.Index.{AreNumbersWith, item_of}
use Rattle.poly_place.specs.Interned.{AreNumbersOf, GoesOnWith}
use Rattle.poly_place.specs.Touched.{AreMarked, touches, touches_named}
use Rattle.poly_place.proofs.Indexed.{touched_has}
use Rattle.poly_place.proofs.Righted.{number_in}
use Rattle.poly_place.proofs.Rows.{with_from}
use Rattle.poly_place.proofs.Updated.{apart_list, kept_is, stays_named, unmarked_in}

pub found_numbers : (v u : View) (x : Change) (marks : List Bool) (new more : List Placement) (kept fresh : List ℕ) (found : List Placement) {d : Layout} → WellNamed v → AreMarked v x marks → kept ≡ unmarked_in v marks →
    GoesOnWith v.placements found new → u.placements ≡ new ++ more → AreNumbersOf new fresh found → IsListOf placement_cmp (λ p. IsPlacement d p × (touches x p ≡ true)) found → IsPermutation (kept ++ fresh) u.live →
    AreNumbersWith u (item_of x) fresh
found_numbers v u x marks new more kept fresh found w m k g grown f l moved =
    let named : (n : ℕ) (p : Placement) → slice_get new n ≡ Some p → slice_get u.placements n ≡ Some p =
    λ n p e. ap (λ ps. slice_get ps n) grown ∙ slice_get_front new more n (get_low new n p e) ∙ e in
    let has : (n : ℕ) (p : Placement) → slice_get new n ≡ Some p → has_item u n (item_of x) ≡ touches x p =
    λ n p e. sym (touched_has x (slice_get u.placements n)) ∙ ap (λ o. touches_named x o) (named n p e) in
    with_from u (item_of x) fresh
    (λ n i.
    let b = number_in new fresh found f n i in (
      contains_in u.live n (Contains-permutation (kept ++ fresh) u.live n moved (in_contains (kept ++ fresh) n (in_append_right n kept fresh i))),
      has n b.0 b.2 ∙ ((l.exact b.0).0 (in_contains found b.0 b.1)).1,
    ))
    (λ n i h. elim (in_append_cases n kept fresh (contains_in (kept ++ fresh) n (Contains-permutation u.live (kept ++ fresh) n (IsPermutation-sym (kept ++ fresh) u.live moved) (in_contains u.live n i)))) [
      | inl j ↦
          let a = kept_is v x marks w m n (subst (λ ns. In n ns) k j) in
          absurd (both_ways (touches x a.place) a.alone (sym (has n a.place (stays_named v.placements new found g n a.place a.named)) ∙ h))
      | inr j ↦ j
    ])
    (apart_list fresh (not_both (record { placements = new; live = []; bounds = []; pins = [] }) fresh found f (apart_from found l.ascending)))
