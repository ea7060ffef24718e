use Rattle.poly_shape.specs.Order.{IsAscending, spot_cmp}
use Rattle.poly_shape.proofs.Taken.{IsTaken}
use Rattle.poly_shape.proofs.cells.Cells.new.Given as goal

abbrev pub invariant-loop-i : goal.invariant-loop-i
invariant-loop-i l = record { taken : IsTaken l.cells l.i l.set; ascending : IsAscending spot_cmp l.set }
