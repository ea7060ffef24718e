use Rattle.std.specs.List.{AllWithin}
use Rattle.poly_design.specs.Moved.{LandsOn}
use Rattle.poly_design.proofs.places.fits.Given as goal

abbrev pub invariant-loop-cell : goal.invariant-loop-cell
invariant-loop-cell l = AllWithin (LandsOn l.board l.right l.down) l.cells 0 l.cell-index
