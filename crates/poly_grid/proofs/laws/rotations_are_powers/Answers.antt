use Rattle.poly_grid.proofs.Turns.{rotations_are_powers}
use Rattle.poly_grid.proofs.laws.rotations_are_powers.Goals as goal

pub returns : goal.returns
returns c = rotations_are_powers
