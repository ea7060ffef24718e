use Rattle.std.proofs.Common.{◌≡◌, ◌∙◌, ℕ, ◌<◌, List, get_or, length, sym, subst, ap, arith}
use Rattle.std.specs.List.{Contains}
use Rattle.std.proofs.lemmas.List.{get_or_read}
use Rattle.poly_grid.specs.Spot.{Spot}
use Rattle.poly_design.specs.Listed.{AddsAll}
use Rattle.poly_design.specs.Moved.{IsShifted, IsSomewhere}
use Rattle.poly_design.proofs.Sets.{adds_none, adds_more, adds_same}
use Rattle.poly_design.proofs.Shifts.{somewhere_by_first}
use Rattle.poly_design.proofs.places.add_all.Goals as goal

pub loop-to-init : goal.loop-to-init
loop-to-init c = adds_none (λ i. IsShifted (Contains c.args.board.now) c.args.forbidden.now c.args.cells.now c.index-as_slice-0.result (get_or c.args.board.now i c.index-as_slice-0.result)) c.args.list.now.items

pub loop-to-preserved : goal.loop-to-preserved
loop-to-preserved c =
    let first = c.index-as_slice-0.result in
    let items = c.cells-to-items.ensures in
    let lt : c.loop-to.to-index < length c.args.board.now = omega (arith, c.loop-to-test.true, ap (λ (l : List Spot). length l) items) in
    let is : c.to-item.result ≡ get_or c.args.board.now c.loop-to.to-index c.to-item.result = c.to-item.is ∙ ap (λ (l : List Spot). get_or l c.loop-to.to-index c.to-item.result) items in
    let e = get_or_read c.args.board.now c.loop-to.to-index c.to-item.result lt is first in
    adds_more (λ i. IsShifted (Contains c.args.board.now) c.args.forbidden.now c.args.cells.now first (get_or c.args.board.now i first)) c.loop-to.to-index c.args.list.now.items _ _ c.loop-to.invariant
    (subst (λ (to : Spot). AddsAll (IsShifted (Contains c.args.board.now) c.args.forbidden.now c.args.cells.now first to) c.loop-to.list.items c.add_shifted.new.list.items) e c.in_ok-add_shifted.ensures.adds)

pub returns-clause-adds : goal.returns-clause-adds
returns-clause-adds c =
    let first = c.index-as_slice-0.result in
    let end : c.loop-to.to-index ≡ length c.args.board.now = omega (arith, c.loop-to-test.false, c.loop-to.auto.to-index-end, ap (λ (l : List Spot). length l) c.cells-to-items.ensures) in
    let here : Contains c.args.cells.now first =
    (0, c.as_slice.ensures.some, sym (c.index-as_slice-0.is ∙ ap (λ (l : List Spot). get_or l 0 first) c.as_slice.ensures.value)) in
    let P : ℕ → List Spot → Type 0 = λ i. IsShifted (Contains c.args.board.now) c.args.forbidden.now c.args.cells.now first (get_or c.args.board.now i first) in
    adds_same (λ k. (i : ℕ) × (i < length c.args.board.now) × P i k) (IsSomewhere (Contains c.args.board.now) c.args.forbidden.now c.args.cells.now) c.args.list.now.items c.loop-to.list.items
    (subst (λ n. AddsAll (λ k. (i : ℕ) × (i < n) × P i k) c.args.list.now.items c.loop-to.list.items) end c.loop-to.invariant)
    (somewhere_by_first (Contains c.args.board.now) c.args.forbidden.now c.args.board.now c.args.cells.now first first (λ v there. there) here)
