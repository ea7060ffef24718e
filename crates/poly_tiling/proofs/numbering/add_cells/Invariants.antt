use Rattle.std.proofs.Common.{map, ◌++◌, ◌≡◌}
use Rattle.poly_tiling.specs.Shows.{cell_bound}
use Rattle.poly_tiling.proofs.numbering.add_cells.Given as goal

abbrev pub invariant-loop-cell : goal.invariant-loop-cell
invariant-loop-cell l = l.list.items ++ map cell_bound l.cell-iterator ≡ l.fn.list.items ++ map cell_bound l.cells.entries
