use Rattle.poly_crew.proofs.Steps.{splits_off}
use Rattle.poly_crew.proofs.lane.Lane.thief.Goals as goal

pub another-pass-requires : goal.another-pass-requires
another-pass-requires c = splits_off _ _ c.self.invariant.owner
