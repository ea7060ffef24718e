use Rattle.std.proofs.Common.{◌≡◌, sym, ◌∙◌, arith}
use Rattle.std.specs.Cmp.Lexicographic.{pointwise}
use Rattle.poly_shape.specs.Order.{spot_total, spot_eq}
use Rattle.poly_shape.proofs.Ascending.{part_shorter}
use Rattle.poly_shape.proofs.Flood.{flood_more, connected_from_flood, flood_from_connected}
use Rattle.poly_shape.proofs.connected.is_connected.Goals as goal

pub with-reached-requires : goal.with-reached-requires
with-reached-requires c =
    let s = c.in-Some.ensures.some in
    let lt = part_shorter spot_total c.loop-cell.reached c.args.cells.now c.in-Some.cell c.loop-cell.invariant.ascending c.as_slice.ensures.ascending c.loop-cell.invariant.part s.0 s.1 in
    omega (arith, lt, c.as_slice.ensures.few)

pub loop-cell-smaller : goal.loop-cell-smaller
loop-cell-smaller c =
    let s = c.in-Some.ensures.some in
    let lt = part_shorter spot_total c.loop-cell.reached c.args.cells.now c.in-Some.cell c.loop-cell.invariant.ascending c.as_slice.ensures.ascending c.loop-cell.invariant.part s.0 s.1 in
    omega (arith, lt, c.with-reached.ensures.fresh s.1)

pub loop-cell-preserved : goal.loop-cell-preserved
loop-cell-preserved c =
    let s = c.in-Some.ensures.some in
    flood_more c.args.grid c.args.cells.now c.loop-cell.reached c.with-reached.result c.in-Some.cell c.loop-cell.invariant s.0 s.2
    c.with-reached.ensures.adds c.with-reached.ensures.ascending

pub returns : goal.returns
returns c =
    let e : c.eq.result ≡ pointwise spot_eq c.loop-cell.reached c.args.cells.now = c.eq.ensures in (
      λ t. connected_from_flood _ _ _ c.loop-cell.invariant (sym e ∙ t),
      λ t. e ∙ flood_from_connected _ _ _ c.as_slice.ensures.ascending c.loop-cell.invariant c.in_default.ensures.none t,
    )
