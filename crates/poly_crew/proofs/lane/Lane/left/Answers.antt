use Rattle.poly_crew.proofs.Steps.{counts}
use Rattle.poly_crew.proofs.lane.Lane.left.Goals as goal

pub len_as-requires : goal.len_as-requires
len_as-requires c = counts _ _ c.self.invariant.owner
