use Rattle.std.proofs.Common.{◌≡◌, arith}
use Rattle.poly_grid.specs.Grid.{turn_count}
use Rattle.poly_shape.proofs.Moved.{orientation_shapes}
use Rattle.poly_shape.proofs.Orientations.{images_more, images_done}
use Rattle.poly_shape.proofs.shape.Shape.orientations.Goals as goal

pub loop-turn-preserved : goal.loop-turn-preserved
loop-turn-preserved c = images_more _ _ _ c.loop-turn.found.items _ c.image-image.result c.loop-turn.invariant c.image-image.ensures c.in_ok-add.ensures.adds c.in_ok-add.ensures.ascending

pub returns-clause-ok : goal.returns-clause-ok
returns-clause-ok c =
    let end : c.loop-turn.turn ≡ turn_count c.self.inside.grid c.args.mirror = omega (arith, c.turns-turn-end.ensures) in
    rw (← c.self.view_is) (images_done _ c.args.mirror c.loop-turn.found.items (rw (← end) c.loop-turn.invariant))

pub returns-clause-shapes : goal.returns-clause-shapes
returns-clause-shapes c =
    let end : c.loop-turn.turn ≡ turn_count c.self.inside.grid c.args.mirror = omega (arith, c.turns-turn-end.ensures) in
    rw (← c.self.view_is) (orientation_shapes _ c.args.mirror c.loop-turn.found.items c.self.invariant (images_done _ c.args.mirror c.loop-turn.found.items (rw (← end) c.loop-turn.invariant)))
