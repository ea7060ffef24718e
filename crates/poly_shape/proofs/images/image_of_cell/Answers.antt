use Rattle.std.proofs.Common.{◌≡◌, arith, ap, refl, ◌∙◌}
use Rattle.std.proofs.lemmas.Int.{ints}
use Rattle.poly_grid.specs.declared.grid.Point.{Point}
use Rattle.poly_grid.specs.Spot.{Spot}
use Rattle.poly_grid.specs.Grid.{turned_of}
use Rattle.poly_shape.specs.Shape.{point_of}
use Rattle.poly_shape.proofs.Corners.{some_is, some_value, turned_near}
use Rattle.poly_grid.proofs.Points.{same_point}
use Rattle.poly_shape.proofs.images.image_of_cell.Goals as goal

pub unwrap-requires : goal.unwrap-requires
unwrap-requires c =
    let e : c.turned-point.result ≡ turned_of c.args.grid c.args.turn (point_of c.args.cell) = c.turned-point.ensures ∙ ap (turned_of c.args.grid c.args.turn) c.point.ensures.value in
    let ex = ap (λ (p : Point). p.x) e in
    let ey = ap (λ (p : Point). p.y) e in
    let near = turned_near c.args.grid c.args.turn c.args.cell c.point.ensures.in_range in
    rw (some_is _ _ c.new.result c.new.ensures (omega (arith, ints, ex, near, c.requires), omega (arith, ints, ey, near, c.requires))) refl

pub returns : goal.returns
returns c =
    let e : c.turned-point.result ≡ turned_of c.args.grid c.args.turn (point_of c.args.cell) = c.turned-point.ensures ∙ ap (turned_of c.args.grid c.args.turn) c.point.ensures.value in
    let ex = ap (λ (p : Point). p.x) e in
    let ey = ap (λ (p : Point). p.y) e in
    let near = turned_near c.args.grid c.args.turn c.args.cell c.point.ensures.in_range in
    let value = some_value _ _ c.new.result c.unwrap.result c.new.ensures c.unwrap.ensures in
    let vx = ap (λ (s : Spot). s.x) value in
    let vy = ap (λ (s : Spot). s.y) value in
    same_point _ _ (omega (arith, ints, ex, vx, near, c.requires)) (omega (arith, ints, ey, vy, near, c.requires))
