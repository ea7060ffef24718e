use Rattle.poly_grid.proofs.Order.{cells_go_by_row}
use Rattle.poly_grid.proofs.laws.cells_go_by_row.Goals as goal

pub returns : goal.returns
returns c = cells_go_by_row
