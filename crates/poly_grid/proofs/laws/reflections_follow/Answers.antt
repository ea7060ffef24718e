use Rattle.poly_grid.proofs.Turns.{reflections_follow}
use Rattle.poly_grid.proofs.laws.reflections_follow.Goals as goal

pub returns : goal.returns
returns c = reflections_follow
