-- The placements of a tiling have no more cells in all than the board has.
use Rattle.std.proofs.Common.{◌≡◌, ◌+◌, ◌≤◌, ℕ, Bool, true, false, List, [], ◌∷◌, refl, sym, subst, arith, length, map, cond, inl, inr}
use Rattle.std.specs.List.{Contains, filter}
use Rattle.std.specs.Map.{keys_of}
use Rattle.std.specs.declared.cmp.Ordering.TheVariants.{Less}
use Rattle.std.proofs.lemmas.List.Kept.{AllPairs-filter}
use Rattle.std.proofs.lemmas.Map.Entries.{length-keys_of}
use Rattle.std.proofs.lemmas.List.Sums.{sum_by-cons}
use Rattle.poly_grid.specs.Spot.{Spot}
use Rattle.poly_shape.specs.Order.{IsAscending, spot_cmp, spot_total}
use Rattle.poly_shape.proofs.Ascending.{length-part}
use Rattle.poly_shape.proofs.Translated.{moved_ascending}
use Rattle.poly_design.specs.Layout.{Layout, mode_of}
use Rattle.poly_design.specs.Limits.{IsDesign}
use Rattle.poly_design.specs.Placements.{IsPlacement}
use Rattle.poly_design.specs.declared.mode.Mode.{Mode}
use Rattle.poly_design.specs.declared.mode.Mode.TheVariants.{Required, Optional, Blocked}
use Rattle.poly_design.specs.declared.placement.Placement.{Placement}
use Rattle.poly_design.proofs.Rows.{unblocked_exactly}
use Rattle.poly_tiling.specs.Lists.{one, tally}
use Rattle.poly_tiling.specs.Puzzle.{same_item}
use Rattle.poly_tiling.specs.Tilings.{IsTiling, bounds_of_mode, carries, how_many}
use Rattle.poly_tiling.specs.declared.item.Item.TheVariants.{Cell, Piece}
use Rattle.poly_tiling.proofs.Contained.{contains_in, in_contains}
use Rattle.poly_tiling.proofs.Lists.{In, any_from, in_map, in_filter}
use Rattle.poly_tiling.proofs.Tilings.{same_item_self}
use Rattle.poly_text.specs.Replies.{covered}
use Rattle.poly_design.specs.declared.design.TheConstants.{MAX_CELLS}

-- how many cells of the board are covered, each counted once for each placement that covers it
abbrev coverings : List Placement → List Spot → ℕ
coverings T [] = 0
coverings T (c ∷ cells) = how_many T (Cell c) + coverings T cells

-- how many cells of the board the placement covers
abbrev on_board : List Spot → Placement → ℕ
on_board cells p = tally (λ c. carries p (Cell c)) cells

coverings_more : (p : Placement) (T : List Placement) (cells : List Spot) → coverings (p ∷ T) cells ≡ on_board cells p + coverings T cells
coverings_more p T [] = refl
coverings_more p T (c ∷ cells) = omega (arith, coverings_more p T cells)

coverings_few : (T : List Placement) (cells : List Spot) → ((c : Spot) → how_many T (Cell c) ≤ 1) → coverings T cells ≤ length cells
coverings_few T [] few = omega arith
coverings_few T (c ∷ cells) few = omega (arith, few c, coverings_few T cells few)

covered_within : (cells : List Spot) (T : List Placement) → ((p : Placement) → In p T → length p.cells ≤ on_board cells p) → covered T ≤ coverings T cells
covered_within cells [] within = omega arith
covered_within cells (p ∷ T) within =
    omega (arith, sum_by-cons (λ q. length q.cells) p T, coverings_more p T cells, within p (inl refl), covered_within cells T (λ q here. within q (inr here)))

tally_length : (f : Spot → Bool) (cells : List Spot) → length (filter f cells) ≡ tally f cells
tally_length f [] = refl
tally_length f (c ∷ cells) = go (f c) (tally_length f cells)
  where
    go : (b : Bool) → length (filter f cells) ≡ tally f cells → length (cond b (c ∷ filter f cells) (filter f cells)) ≡ one b + tally f cells
    go true e = omega (arith, e)
    go false e = omega (arith, e)

covers_own : (p : Placement) (c : Spot) → Contains p.cells c → carries p (Cell c) ≡ true
covers_own p c here = any_from (λ j. same_item j (Cell c)) (Piece p.name ∷ map (λ d. Cell d) p.cells) (Cell c) (inr (in_map (λ d. Cell d) p.cells c (contains_in p.cells c here))) (same_item_self (Cell c))

module _ (d : Layout) (design : IsDesign d) where
  all_on_board : (p : Placement) → IsPlacement d p → length p.cells ≤ on_board (keys_of d.cells) p
  all_on_board p place =
      let board = keys_of d.cells in
      let f : Spot → Bool = λ c. carries p (Cell c) in
      let lies = place.place.lies in
      let up : IsAscending spot_cmp p.cells = subst (IsAscending spot_cmp) (sym lies.moved) (moved_ascending place.place.right place.place.down place.place.image place.place.turned.ascending) in
      let vp : IsAscending spot_cmp (filter f board) = AllPairs-filter (λ a b. spot_cmp a b ≡ Less) f board design.cells_ascend in
      let within : (c : Spot) → Contains p.cells c → Contains (filter f board) c
      = λ c here. in_contains (filter f board) c (in_filter f board c (contains_in board c ((unblocked_exactly d.cells design.unblocked c).1 (lies.free c here))) (covers_own p c here)) in
      let shorter = length-part spot_total p.cells (filter f board) up vp within in
      omega (arith, shorter, tally_length f board)

  most_once : (m : Mode) → (bounds_of_mode m).most ≤ 1
  most_once Required = omega arith
  most_once Optional = omega arith
  most_once Blocked = omega arith

  pub covered_few : (T : List Placement) → IsTiling d T → covered T ≤ MAX_CELLS
  covered_few T tiling =
      let board = keys_of d.cells in
      let within = covered_within board T (λ p here. all_on_board p (tiling.inside p (in_contains T p here))) in
      let few = coverings_few T board (λ c. omega (arith, tiling.most (Cell c), most_once (mode_of d c))) in
      omega (arith, within, few, design.few_cells, length-keys_of d.cells)
