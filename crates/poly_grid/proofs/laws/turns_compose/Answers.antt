use Rattle.poly_grid.proofs.Turns.{turns_compose}
use Rattle.poly_grid.proofs.laws.turns_compose.Goals as goal

pub returns : goal.returns
returns c = turns_compose
