use Rattle.std.proofs.Common.{◌≡◌, sym, ap, ◌∙◌, arith}
use Rattle.std.proofs.lemmas.Int.{ints}
use Rattle.std.proofs.lemmas.List.{get_or_read}
use mir.Val.{to_z, of_z}
use mir.Syntax.{w16}
use Rattle.poly_grid.specs.declared.grid.Point.{Point}
use Rattle.poly_grid.specs.Grid.{turned_of}
use Rattle.poly_shape.specs.Shape.{point_of}
use Rattle.poly_shape.proofs.Corners.{LowFrom, IsLesser, lesser_from_min, turned_near, low_more}
use Rattle.poly_shape.proofs.images.low_corner.Goals as goal

pub loop-i-preserved : goal.loop-i-preserved
loop-i-preserved c =
    let a = c.index-cells-i.result in
    let p = turned_of c.args.grid c.args.turn (point_of a) in
    let near = turned_near c.args.grid c.args.turn a c.point-in-loop-i.ensures.in_range in
    let e : c.turned-point.result ≡ p = c.turned-point.ensures ∙ ap (turned_of c.args.grid c.args.turn) c.point-in-loop-i.ensures.value in
    let ex = ap (λ (p : Point). p.x) e in
    let ey = ap (λ (p : Point). p.y) e in
    let x' = to_z w16 (of_z w16 c.min-x.result) in
    let y' = to_z w16 (of_z w16 c.min-y.result) in
    let turned_x = to_z w16 (of_z w16 c.turned-point.result.x) in
    let turned_y = to_z w16 (of_z w16 c.turned-point.result.y) in
    let same_x : x' ≡ c.min-x.result = omega (arith, ints, c.min-x.ensures.self_bound) in
    let same_y : y' ≡ c.min-y.result = omega (arith, ints, c.min-y.ensures.self_bound) in
    let is_x : turned_x ≡ p.x = omega (arith, ints, ex, near) in
    let is_y : turned_y ≡ p.y = omega (arith, ints, ey, near) in
    let across : IsLesser x' c.loop-i.x p.x = lesser_from_min x' c.min-x.result (to_z w16 c.loop-i.x-bits) turned_x c.loop-i.x p.x c.min-x.ensures.value c.min-x.ensures.self_bound c.min-x.ensures.other_bound same_x c.loop-i.x-is is_x in
    let down : IsLesser y' c.loop-i.y p.y = lesser_from_min y' c.min-y.result (to_z w16 c.loop-i.y-bits) turned_y c.loop-i.y p.y c.min-y.ensures.value c.min-y.ensures.self_bound c.min-y.ensures.other_bound same_y c.loop-i.y-is is_y in
    let inv : LowFrom c.args.grid c.args.turn c.args.cells.now c.loop-i.i c.loop-i.x c.loop-i.y = rw (← c.loop-i.x-is, ← c.loop-i.y-is) c.loop-i.invariant in
    low_more c.args.grid c.args.turn c.args.cells.now c.loop-i.i c.loop-i.x c.loop-i.y x' y' a inv c.loop-i-test.true
    (λ d. sym (get_or_read c.args.cells.now c.loop-i.i a c.loop-i-test.true c.index-cells-i.is d)) across down
