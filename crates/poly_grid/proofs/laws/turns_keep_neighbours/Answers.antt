use Rattle.poly_grid.proofs.Neighbours.{turns_keep_neighbours}
use Rattle.poly_grid.proofs.laws.turns_keep_neighbours.Goals as goal

pub returns : goal.returns
returns c = turns_keep_neighbours
