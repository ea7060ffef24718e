use Rattle.poly_crew.proofs.Steps.{pops, finds_none}
use Rattle.poly_crew.proofs.lane.Lane.pop.Goals as goal

pub pop_as-requires-clause-fifo : goal.pop_as-requires-clause-fifo
pop_as-requires-clause-fifo c = λ _. pops _ _ 1 c.self.invariant.owner

pub pop_as-requires-clause-empty : goal.pop_as-requires-clause-empty
pop_as-requires-clause-empty c = finds_none _ _ c.self.invariant.owner
