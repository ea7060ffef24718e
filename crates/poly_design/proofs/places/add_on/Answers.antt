use Rattle.std.proofs.Common.{◌≡◌, ◌∙◌, ℕ, ◌<◌, List, get_or, length, subst, ap, arith}
use Rattle.std.specs.List.{Contains}
use Rattle.std.proofs.lemmas.List.{get_or_read}
use Rattle.poly_grid.specs.Spot.{Spot}
use Rattle.poly_design.specs.Listed.{AddsAll}
use Rattle.poly_design.specs.Moved.{IsShifted, IsSomewhere}
use Rattle.poly_design.proofs.Sets.{adds_more, adds_same}
use Rattle.poly_design.proofs.Shifts.{somewhere_on}
use Rattle.poly_design.proofs.places.add_on.Goals as goal

pub loop-from-preserved : goal.loop-from-preserved
loop-from-preserved c =
    let items = c.as_slice-from-items.ensures.value in
    let lt : c.loop-from.from-index < length c.args.cells.now = omega (arith, c.loop-from-test.true, ap (λ (l : List Spot). length l) items) in
    let is : c.from-item.result ≡ get_or c.args.cells.now c.loop-from.from-index c.from-item.result = c.from-item.is ∙ ap (λ (l : List Spot). get_or l c.loop-from.from-index c.from-item.result) items in
    let e = get_or_read c.args.cells.now c.loop-from.from-index c.from-item.result lt is c.args.cell in
    adds_more (λ i. IsShifted (Contains c.args.board.now) c.args.forbidden.now c.args.cells.now (get_or c.args.cells.now i c.args.cell) c.args.cell) c.loop-from.from-index c.args.list.now.items _ _ c.loop-from.invariant
    (subst (λ (from : Spot). AddsAll (IsShifted (Contains c.args.board.now) c.args.forbidden.now c.args.cells.now from c.args.cell) c.loop-from.list.items c.add_shifted.new.list.items) e c.in_ok-add_shifted.ensures.adds)

pub returns-clause-adds : goal.returns-clause-adds
returns-clause-adds c =
    let end : c.loop-from.from-index ≡ length c.args.cells.now = omega (arith, c.loop-from-test.false, c.loop-from.auto.from-index-end, ap (λ (l : List Spot). length l) c.as_slice-from-items.ensures.value) in
    let P : ℕ → List Spot → Type 0 = λ i. IsShifted (Contains c.args.board.now) c.args.forbidden.now c.args.cells.now (get_or c.args.cells.now i c.args.cell) c.args.cell in
    adds_same (λ k. (i : ℕ) × (i < length c.args.cells.now) × P i k) (λ k. IsSomewhere (Contains c.args.board.now) c.args.forbidden.now c.args.cells.now k × Contains k c.args.cell) c.args.list.now.items c.loop-from.list.items
    (subst (λ n. AddsAll (λ k. (i : ℕ) × (i < n) × P i k) c.args.list.now.items c.loop-from.list.items) end c.loop-from.invariant)
    (somewhere_on (Contains c.args.board.now) c.args.forbidden.now c.args.cells.now c.args.cell c.args.cell)
