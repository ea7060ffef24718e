-- An answer to `browse` stays the same if each tiling is written as its placements in order. The forced placements of an
-- answer fit a reply line.
use Rattle.std.proofs.Common.{List, [], ap, arith, inl, inr, length, map, refl, subst, sym, true, ℕ, ◌+◌, ◌<◌, ◌∙◌, ◌∷◌, ◌≡◌, ◌≤◌}
use Rattle.std.specs.Prelude.{◌⊎◌}
use Rattle.std.specs.List.{filter}
use Rattle.std.specs.declared.cmp.Ordering.TheVariants.{Less}
use Rattle.std.proofs.lemmas.List.Sums.{sum_by-cons}
use Rattle.poly_shape.specs.Order.{HasSame, IsAscending}
use Rattle.poly_shape.proofs.Ascending.{not_below_itself}
use Rattle.poly_design.specs.Layout.{Layout}
use Rattle.poly_design.specs.Limits.{IsDesign}
use Rattle.poly_design.specs.Listed.{IsListOf}
use Rattle.poly_design.specs.PlacementOrder.{placement_cmp, placement_total}
use Rattle.poly_design.specs.declared.placement.Placement.{Placement}
use Rattle.poly_tiling.specs.Lists.{mem}
use Rattle.poly_tiling.specs.Listings.{IsListOfTilings, ListingsShow}
use Rattle.poly_tiling.specs.Puzzle.{View, is_tiling}
use Rattle.poly_tiling.specs.Shows.{names}
use Rattle.poly_tiling.specs.TilingOrder.{placed}
use Rattle.poly_tiling.specs.declared.item.Item.{Item}
use Rattle.poly_tiling.proofs.Contained.{contains_in, in_contains, pairs_head, pairs_rest}
use Rattle.poly_tiling.proofs.Lists.{In, filter_in, in_filter, in_mem, mem_in}
use Rattle.poly_tiling.proofs.Shown.{in_names, names_in}
use Rattle.poly_tiling.proofs.Tilings.{parts}
use Rattle.poly_browse.specs.Browsing.{Asked, IsAnswer, IsForced, matches, matching}
use Rattle.poly_browse.specs.Laws.{AnswersGoBySets, AreSameSets}
use Rattle.poly_text.specs.Replies.{covered}
use Rattle.poly_book.specs.AllTilings.{AllTilings, HasAll}
use Rattle.poly_design.specs.declared.design.TheConstants.{MAX_CELLS}
use Rattle.poly_cli.proofs.Covered.{covered_few}
use Rattle.poly_cli.proofs.Printable.{tiles}

-- ---- a part covers no more than the whole

abbrev AreApart : List Placement → Type 0
AreApart [] = Unit {0}
AreApart (p ∷ ps) = (In p ps → ⊥) × AreApart ps

-- the list without one of its placements
record Without (p : Placement) (qs : List Placement) : Type 0 where
  rest : List Placement
  less : covered qs ≡ length p.cells + covered rest
  others : (r : Placement) → In r qs → (r ≡ p) ⊎ In r rest

without : (p : Placement) (qs : List Placement) → In p qs → Without p qs
without p [] here = absurd here
without p (q ∷ qs) (inl e) = record {
  rest = qs;
  less = sum_by-cons (λ z. length z.cells) q qs ∙ ap (λ z. length z.cells + covered qs) e;
  others = first;
}
  where
    first : (r : Placement) → In r (q ∷ qs) → (r ≡ p) ⊎ In r qs
    first r (inl is) = inl (sym is ∙ e)
    first r (inr later) = inr later
without p (q ∷ qs) (inr here) =
    let w = without p qs here in
    record {
      rest = q ∷ w.rest;
      less = omega (arith, sum_by-cons (λ z. length z.cells) q qs, sum_by-cons (λ z. length z.cells) q w.rest, w.less);
      others = split w;
    }
  where
    later : (w : Without p qs) (r : Placement) → (r ≡ p) ⊎ In r w.rest → (r ≡ p) ⊎ In r (q ∷ w.rest)
    later w r (inl is) = inl is
    later w r (inr there) = inr (inr there)

    split : (w : Without p qs) (r : Placement) → In r (q ∷ qs) → (r ≡ p) ⊎ In r (q ∷ w.rest)
    split w r (inl is) = inr (inl is)
    split w r (inr after) = later w r (w.others r after)

part_within : (ps qs : List Placement) → AreApart ps → ((p : Placement) → In p ps → In p qs) → covered ps ≤ covered qs
part_within [] qs apart within = omega arith
part_within (p ∷ ps) qs apart within =
    let w = without p qs (within p (inl refl)) in
    let rest = part_within ps w.rest apart.1 (λ r here. keep w r here (w.others r (within r (inr here)))) in
    omega (arith, sum_by-cons (λ z. length z.cells) p ps, w.less, rest)
  where
    keep : (w : Without p qs) (r : Placement) → In r ps → (r ≡ p) ⊎ In r w.rest → In r w.rest
    keep w r here (inl is) = absurd (apart.0 (moved r here is))
      where
        moved : (r : Placement) → In r ps → r ≡ p → In p ps
        moved r here is = subst (λ z. In z ps) is here
    keep w r here (inr there) = there

apart_from : (ps : List Placement) → IsAscending placement_cmp ps → AreApart ps
apart_from [] up = tt
apart_from (p ∷ ps) up = (
  λ here. not_below_itself placement_total p (pairs_head (λ x y. placement_cmp x y ≡ Less) p ps up p here),
  apart_from ps (pairs_rest (λ x y. placement_cmp x y ≡ Less) p ps up),
)

-- the forced placements fit a reply line
pub forced_short : (d : Layout) (all : List (List Placement)) (q : Asked) (forced : List Placement) → IsDesign d → IsListOfTilings d all → IsListOf placement_cmp (IsForced (matching q all)) forced → covered forced ≤ MAX_CELLS
forced_short d all q [] design list is = omega arith
forced_short d all q (p ∷ ps) design list is =
    let some = ((is.exact p).0 (in_contains (p ∷ ps) p (inl refl))).0 in
    go (matching q all) refl some
  where
    go : (tilings : List (List Placement)) → matching q all ≡ tilings → 0 < length (matching q all) → covered (p ∷ ps) ≤ MAX_CELLS
    go [] e some = absurd (omega (arith, some, ap length e))
    go (T ∷ tilings) e some =
        let here : In T (matching q all) = subst (In T) (sym e) (inl refl) in
        let tiling = ((list.exact T).0 (in_contains all T (filter_in (matches q) all T here).0)).0 in
        let within = part_within (p ∷ ps) T (apart_from (p ∷ ps) is.ascending)
        (λ r i. contains_in T r (((is.exact r).0 (in_contains (p ∷ ps) r i)).1 T (in_contains (matching q all) T here))) in
        omega (arith, within, covered_few d design T tiling)

-- ---- a tiling's placements in order are its placements

module _ (v : View) where
  same_placed : (T : List ℕ) → is_tiling v T ≡ true → HasSame (names v T) (placed v T)
  same_placed T tiling p = (
    λ here. let n = names_in v T p (contains_in (names v T) p here) in
        in_contains (placed v T) p (in_names v (filter (λ m. mem T m) v.live) n.0 p (in_filter (λ m. mem T m) v.live n.0 ((parts v T tiling).placed n.0 n.1) (in_mem T n.0 n.1)) n.2),
    λ here. let n = names_in v (filter (λ m. mem T m) v.live) p (contains_in (placed v T) p here) in
        in_contains (names v T) p (in_names v T n.0 p (mem_in T n.0 (filter_in (λ m. mem T m) v.live n.0 n.1).1) n.2),
  )

  pub same_sets : (all : List (List ℕ)) → ((T : List ℕ) → In T all → is_tiling v T ≡ true) → AreSameSets (map (names v) all) (map (placed v) all)
  same_sets [] tilings = tt
  same_sets (T ∷ all) tilings = (same_placed T (tilings T (inl refl)), same_sets all (λ U here. tilings U (inr here)))

-- an answer about tilings, each given as the placements that its numbers name, is also an answer about the same tilings, each
-- given as its placements in placement order; the answer's forced placements fit a reply line
pub answer_is : AnswersGoBySets → ListingsShow → (q : AllTilings) (l : HasAll q) (asked : Asked) (count : ℕ) (forced : List Placement) (options : List (Item × ℕ))
    → IsAnswer q.design (map (names q.view) q.tilings) asked count forced options → IsAnswer q.design (map (placed q.view) q.tilings) asked count forced options × (covered forced ≤ MAX_CELLS)
answer_is law listings q l asked count forced options answer =
    let all = map (placed q.view) q.tilings in
    let moved = law q.design (map (names q.view) q.tilings) all asked count forced options (same_sets q.view q.tilings (tiles q l)) answer in
    (moved, forced_short q.design all asked forced l.is_design (listings q.view q.design q.tilings l.well l.shows l.each l.order) moved.forced_ones)

pub answer_moved : {d e : Layout} {v w : View} {l m : List (List ℕ)} {p q : Asked} (count : ℕ) (forced : List Placement) (options : List (Item × ℕ)) → d ≡ e → v ≡ w → l ≡ m → p ≡ q
    → IsAnswer d (map (names v) l) p count forced options → IsAnswer e (map (names w) m) q count forced options
answer_moved {d} {e} {v} {w} {l} {m} {p} {q} count forced options a b c x h =
    subst (λ z. IsAnswer z (map (names w) m) q count forced options) a (subst (λ z. IsAnswer d (map (names z) m) q count forced options) b
    (subst (λ z. IsAnswer d (map (names v) z) q count forced options) c (subst (λ z. IsAnswer d (map (names v) l) z count forced options) x h)))
