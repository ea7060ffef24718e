-- How many guards a change has, by the two designs.
use Rattle.std.proofs.Common.{List, [], ap, arith, filter, inl, length, nat_lt, refl, subst, suc, true, ℕ, ◌∙◌, ◌∷◌, ◌≡◌}
use Rattle.std.proofs.lemmas.Bool.{and_parts}
use Rattle.std.specs.Cmp.{IsTotalOrder}
use Rattle.std.specs.Cmp.Lexicographic.{nat_list_cmp_total}
use Rattle.std.specs.List.{cons_option, list_all}
use Rattle.std.specs.declared.cmp.Ordering.{Ordering}
use Rattle.poly_shape.specs.Order.{IsAscending}
use Rattle.poly_shape.proofs.Ascending.{same_ascending}
use Rattle.poly_design.specs.Listed.{IsListOf}
use Rattle.poly_design.specs.PlacementOrder.{placement_cmp, placement_total}
use Rattle.poly_design.specs.declared.placement.Placement.{Placement}
use Rattle.poly_place.specs.Between.{IsChangeOf}
use Rattle.poly_place.specs.Delta.{AreNumbersFor}
use Rattle.poly_place.specs.declared.delta.Delta.{Delta}
use Rattle.poly_tiling.specs.Puzzle.{View}
use Rattle.poly_tiling.specs.Shows.{given, names}
use Rattle.poly_tiling.proofs.Contained.{contains_in, in_contains}
use Rattle.poly_tiling.proofs.Listings.{names_ascend}
use Rattle.poly_tiling.proofs.Searched.{item_total}
use Rattle.poly_tiling.proofs.Shown.{in_names, is_given, named_of, names_in}
use Rattle.poly_atom.specs.Guards.{guards}
use Rattle.poly_atom.specs.Width.{HasWidth, WidthIsOne, WidthsShow}
use Rattle.poly_atom.proofs.Laid.{back_count, forth_count}

keep_all : (ns : List ℕ) → filter (λ n. true) ns ≡ ns
keep_all [] = refl
keep_all (n ∷ ns) = ap (λ ms. n ∷ ms) (keep_all ns)

-- from the numbers of the placements that satisfy P, in placement order, `names` makes the list of these placements
pub placed_list : (w : View) (P : Placement → Type 0) (ns : List ℕ) → AreNumbersFor w P ns → IsListOf placement_cmp P (names w ns)
placed_list w P ns are = record {
  ascending = subst (λ ms. IsAscending placement_cmp (names w ms)) (keep_all ns) (names_ascend w ns are.up (λ n. true));
  exact = λ p. (
    λ h. let r = names_in w ns p (contains_in (names w ns) p h) in (are.exact p).0 (named_of w ns r.0 p r.1 r.2),
    λ q. let r = (are.exact p).1 q in in_contains (names w ns) p (in_names w ns r.number p (contains_in ns r.number r.stands) r.names),
  );
}

pub named_count : (w : View) (ns : List ℕ) → given w ns ≡ true → length (names w ns) ≡ length ns
named_count w [] g = refl
named_count w (n ∷ ns) g =
    let gs = and_parts (nat_lt n (length w.placements)) (list_all (λ m. nat_lt m (length w.placements)) ns) g in
    let x = is_given w (n ∷ ns) g n (inl refl) in
    ap (λ o. length (cons_option o (names w ns))) x.1 ∙ ap suc (named_count w ns gs.1)

forth_width : (v w : View) (x : Delta) → (c : IsChangeOf v w x) → HasWidth c.before c.after (length (guards v w))
forth_width v w x c = record {
  fresh = names w x.fresh.items;
  unneeded = x.unneeded.items;
  widened = x.widened.items;
  unpinned = names w x.unpinned.items;
  are_fresh = placed_list w _ x.fresh.items c.delta.fresh;
  are_unneeded = c.delta.unneeded;
  are_widened = c.delta.widened;
  are_unpinned = placed_list w _ x.unpinned.items c.delta.unpinned;
  whole = let a = named_count w x.fresh.items c.delta.fresh.given_out in let b = named_count w x.unpinned.items c.delta.unpinned.given_out in let n = forth_count v w x c in omega (arith, a, b, n);
}

back_width : (v w : View) (x : Delta) → (c : IsChangeOf v w x) → HasWidth c.after c.before (length (guards w v))
back_width v w x c = record {
  fresh = names w x.gone.items;
  unneeded = x.needed.items;
  widened = x.narrowed.items;
  unpinned = names w x.pinned.items;
  are_fresh = placed_list w _ x.gone.items c.delta.gone;
  are_unneeded = c.delta.needed;
  are_widened = c.delta.narrowed;
  are_unpinned = placed_list w _ x.pinned.items c.delta.pinned;
  whole = let a = named_count w x.gone.items c.delta.gone.given_out in let b = named_count w x.pinned.items c.delta.pinned.given_out in let n = back_count v w x c in omega (arith, a, b, n);
}

pub widths_show_lem : WidthsShow
widths_show_lem v w x c = (forth_width v w x c, back_width v w x c)

one_list : {X : Type 0} {R : X → X → Ordering} → IsTotalOrder R → (P : X → Type 0) (xs ys : List X) → IsListOf R P xs → IsListOf R P ys → xs ≡ ys
one_list o P xs ys a b = same_ascending o xs ys a.ascending b.ascending (λ x h. (b.exact x).1 ((a.exact x).0 h)) (λ x h. (a.exact x).1 ((b.exact x).0 h))

pub width_is_one_lem : WidthIsOne
width_is_one_lem d e m n h k =
    let a = ap length (one_list placement_total _ h.fresh k.fresh h.are_fresh k.are_fresh) in
    let b = ap length (one_list item_total _ h.unneeded k.unneeded h.are_unneeded k.are_unneeded) in
    let c = ap length (one_list nat_list_cmp_total _ h.widened k.widened h.are_widened k.are_widened) in
    let g = ap length (one_list placement_total _ h.unpinned k.unpinned h.are_unpinned k.are_unpinned) in
    let x = h.whole in
    let y = k.whole in
    omega (arith, a, b, c, g, x, y)
