use Rattle.poly_shape.specs.Order.{cells_total}
use Rattle.poly_design.proofs.Sets.{found_exactly}
use Rattle.poly_design.proofs.cells_set.CellsSet.contains.Goals as goal

pub returns-clause-found : goal.returns-clause-found
returns-clause-found c = rw c.is_ok.ensures.value (found_exactly cells_total c.args.cells.now c.args.self.now _ c.index_of.ensures.found c.index_of.ensures.gap)
