use Rattle.std.proofs.Common.{◌≡◌, ◌≤◌, length, sym, ap, subst, ◌∙◌, arith, List}
use Rattle.std.specs.List.{Contains}
use Rattle.poly_grid.specs.Spot.{Spot}
use Rattle.poly_shape.specs.Order.{IsAscending, spot_cmp}
use Rattle.poly_shape.specs.Moves.{moved_by, StaysInRange}
use Rattle.poly_shape.proofs.Translated.{IsMovedTo, moved_all, stays_all, moved_ascending}
use Rattle.poly_shape.proofs.cells.Cells.translated.Goals as goal

pub returns-in_err-moved : goal.returns-in_err-moved
returns-in_err-moved c = rw c.from_residual.ensures (λ stays.
    let here : Contains c.as_slice-cells.result.now c.index-cells-i.result = (c.loop-i.i, c.loop-i-test.true, sym c.index-cells-i.is) in
    c.in_err-moved.ensures (stays c.index-cells-i.result (subst (λ (l : List Spot). Contains l c.index-cells-i.result) c.as_slice-cells.ensures.value here)))

pub from_ascending-requires-clause-ascending : goal.from_ascending-requires-clause-ascending
from_ascending-requires-clause-ascending c =
    let xs = c.as_slice-cells.result.now in
    let end : c.loop-i.i ≡ length xs = omega (arith, c.loop-i-test.false, c.loop-i.auto.i-end) in
    let is : IsMovedTo c.args.right c.args.down xs (length xs) c.loop-i.moved = subst (λ n. IsMovedTo c.args.right c.args.down xs n c.loop-i.moved) end c.loop-i.invariant in
    let few : length xs ≤ 16 = rw c.as_slice-cells.ensures.value c.as_slice-cells.ensures.few in
    let up : IsAscending spot_cmp xs = rw c.as_slice-cells.ensures.value c.as_slice-cells.ensures.ascending in
    rw (moved_all c.args.right c.args.down xs c.loop-i.moved is few) (moved_ascending c.args.right c.args.down xs up)

pub returns : goal.returns
returns c =
    let xs = c.as_slice-cells.result.now in
    let end : c.loop-i.i ≡ length xs = omega (arith, c.loop-i-test.false, c.loop-i.auto.i-end) in
    let is : IsMovedTo c.args.right c.args.down xs (length xs) c.loop-i.moved = subst (λ n. IsMovedTo c.args.right c.args.down xs n c.loop-i.moved) end c.loop-i.invariant in
    let few : length xs ≤ 16 = rw c.as_slice-cells.ensures.value c.as_slice-cells.ensures.few in (
      subst (StaysInRange c.args.right c.args.down) c.as_slice-cells.ensures.value (stays_all c.args.right c.args.down xs c.loop-i.moved is),
      c.from_ascending.ensures ∙ moved_all c.args.right c.args.down xs c.loop-i.moved is few ∙ ap (moved_by c.args.right c.args.down) c.as_slice-cells.ensures.value,
    )
