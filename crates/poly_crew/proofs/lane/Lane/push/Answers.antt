use Rattle.poly_crew.proofs.Steps.{pushes}
use Rattle.poly_crew.proofs.lane.Lane.push.Goals as goal

pub push_as-requires-clause-pushes : goal.push_as-requires-clause-pushes
push_as-requires-clause-pushes c = pushes _ _ _ c.self.invariant.owner
