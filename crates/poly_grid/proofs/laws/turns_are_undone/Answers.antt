use Rattle.poly_grid.proofs.Turns.{turns_are_undone}
use Rattle.poly_grid.proofs.laws.turns_are_undone.Goals as goal

pub returns : goal.returns
returns c = turns_are_undone
