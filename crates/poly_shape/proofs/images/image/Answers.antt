use Rattle.std.proofs.Common.{◌≡◌, ◌<◌, ◌≤◌, length, sym, arith}
use Rattle.std.proofs.lemmas.List.{get_or_read}
use Rattle.poly_shape.specs.Connected.{IsCompact}
use Rattle.poly_shape.proofs.Corners.{in_reach}
use Rattle.poly_shape.proofs.Spread.{compact_connected}
use Rattle.poly_shape.proofs.Turned.{image_more, image_done}
use Rattle.poly_shape.proofs.images.image.Goals as goal

pub low_corner-corner-requires-clause-compact : goal.low_corner-corner-requires-clause-compact
low_corner-corner-requires-clause-compact c = rw c.as_slice-cells.ensures.value (compact_connected _ _ c.requires.connected c.as_slice-cells.ensures.few)

pub image_of_cell-requires-clause-reach : goal.image_of_cell-requires-clause-reach
image_of_cell-requires-clause-reach c =
    let small : IsCompact c.as_slice-cells.result.now = rw c.as_slice-cells.ensures.value (compact_connected _ _ c.requires.connected c.as_slice-cells.ensures.few) in
    let some : 0 < length c.as_slice-cells.result.now = rw c.as_slice-cells.ensures.value (omega (arith, c.as_slice-cells.ensures.some)) in
    in_reach _ _ _ _ _ c.low_corner-corner.ensures small (0, some, sym c.index-cells-0.is)

pub image_of_cell-requires-in-loop-i-clause-reach : goal.image_of_cell-requires-in-loop-i-clause-reach
image_of_cell-requires-in-loop-i-clause-reach c =
    let small : IsCompact c.as_slice-cells.result.now = rw c.as_slice-cells.ensures.value (compact_connected _ _ c.requires.connected c.as_slice-cells.ensures.few) in
    in_reach _ _ _ _ _ c.low_corner-corner.ensures small (c.loop-i.i, c.loop-i-test.true, sym c.index-cells-i.is)

pub loop-i-preserved : goal.loop-i-preserved
loop-i-preserved c =
    image_more _ _ _ _ _ c.loop-i.image _ c.index-cells-i.result c.image_of_cell-in-loop-i.result c.loop-i.invariant c.loop-i-test.true
    (λ d. sym (get_or_read c.as_slice-cells.result.now c.loop-i.i c.index-cells-i.result c.loop-i-test.true c.index-cells-i.is d))
    c.image_of_cell-in-loop-i.ensures c.with-image.ensures.adds c.with-image.ensures.few c.with-image.ensures.ascending

pub returns : goal.returns
returns c =
    let some : 1 ≤ length c.as_slice-cells.result.now = rw c.as_slice-cells.ensures.value c.as_slice-cells.ensures.some in
    let end : c.loop-i.i ≡ length c.as_slice-cells.result.now = omega (arith, c.loop-i.auto.i-end some, c.loop-i-test.false) in
    rw (← c.as_slice-cells.ensures.value) (image_done _ _ _ _ _ c.low_corner-corner.ensures (rw (← end) c.loop-i.invariant))
