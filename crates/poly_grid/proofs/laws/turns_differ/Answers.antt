use Rattle.poly_grid.proofs.Turns.{turns_differ}
use Rattle.poly_grid.proofs.laws.turns_differ.Goals as goal

pub returns : goal.returns
returns c = turns_differ
