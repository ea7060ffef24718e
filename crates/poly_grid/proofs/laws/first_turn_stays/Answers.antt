use Rattle.poly_grid.proofs.Turns.{first_turn_stays}
use Rattle.poly_grid.proofs.laws.first_turn_stays.Goals as goal

pub returns : goal.returns
returns c = first_turn_stays
