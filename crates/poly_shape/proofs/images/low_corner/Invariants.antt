use Rattle.poly_shape.proofs.Corners.{LowFrom}
use Rattle.poly_shape.proofs.images.low_corner.Given as goal

abbrev pub invariant-loop-i : goal.invariant-loop-i
invariant-loop-i l = LowFrom l.grid l.turn l.cells l.i l.x l.y
