use Rattle.poly_grid.proofs.Neighbours.{neighbours_are_mutual}
use Rattle.poly_grid.proofs.laws.neighbours_are_mutual.Goals as goal

pub returns : goal.returns
returns c = neighbours_are_mutual
