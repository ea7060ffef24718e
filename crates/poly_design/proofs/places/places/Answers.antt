use Rattle.std.proofs.Common.{◌≡◌, ℕ, ◌<◌, List, [], get_or, length, subst, arith}
use Rattle.std.specs.List.{Contains}
use Rattle.std.proofs.lemmas.List.{get_or_read}
use Rattle.poly_grid.specs.Spot.{Spot}
use Rattle.poly_design.specs.Listed.{AddsAll}
use Rattle.poly_design.specs.Moved.{IsSomewhere}
use Rattle.poly_design.specs.Placements.{IsPlace}
use Rattle.poly_design.proofs.Sets.{adds_more, adds_same}
use Rattle.poly_design.proofs.Same.{cells_listed_from}
use Rattle.poly_design.proofs.Shifts.{place_by_orientation}
use Rattle.poly_design.proofs.places.places.Goals as goal

pub loop-i-preserved : goal.loop-i-preserved
loop-i-preserved c =
    let items = c.in_ok-orientations.orientations.items in
    let lt : c.loop-i.i < length items = omega (arith, c.loop-i-test.true, c.len-i-end.ensures) in
    let e = get_or_read items c.loop-i.i c.index.result.now lt c.index.ensures [] in
    adds_more (λ i. IsSomewhere (Contains c.args.board.now) c.args.spec.now.forbidden (get_or items i [])) c.loop-i.i [] _ _ c.loop-i.invariant
    (subst (λ (o : List Spot). AddsAll (IsSomewhere (Contains c.args.board.now) c.args.spec.now.forbidden o) c.loop-i.list.items c.add_all.new.list.items) e c.in_ok-add_all.ensures.adds)

pub returns-clause-ok : goal.returns-clause-ok
returns-clause-ok c =
    let items = c.in_ok-orientations.orientations.items in
    let end : c.loop-i.i ≡ length items = omega (arith, c.len-i-end.ensures) in
    let P : ℕ → List Spot → Type 0 = λ i. IsSomewhere (Contains c.args.board.now) c.args.spec.now.forbidden (get_or items i []) in
    cells_listed_from (IsPlace (Contains c.args.board.now) c.args.spec.now) c.loop-i.list.items _ _
    (adds_same (λ k. (i : ℕ) × (i < length items) × P i k) (IsPlace (Contains c.args.board.now) c.args.spec.now) [] c.loop-i.list.items
    (subst (λ n. AddsAll (λ k. (i : ℕ) × (i < n) × P i k) [] c.loop-i.list.items) end c.loop-i.invariant)
    (place_by_orientation (Contains c.args.board.now) c.args.spec.now items c.in_ok-orientations.ensures.ok))
    c.in_ok-sort.ensures.permutation c.in_ok-sort.ensures.sorted c.dedup.ensures.filtered
