use Rattle.std.proofs.Common.{◌≡◌, ◌++◌}
use Rattle.poly_design.proofs.parts.copy_cells.Given as goal

abbrev pub invariant-loop-cell : goal.invariant-loop-cell
invariant-loop-cell l = l.copy.entries ++ l.cell-iterator ≡ l.cells.entries
