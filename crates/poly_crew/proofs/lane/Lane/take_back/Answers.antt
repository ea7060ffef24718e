use Rattle.std.proofs.Common.{ap}
use Rattle.poly_crew.specs.declared.rule.HandleView.{HandleView}
use Rattle.poly_crew.proofs.Steps.{joins_back}
use Rattle.poly_crew.proofs.lane.Lane.take_back.Goals as goal

pub absorb-requires-clause-rule : goal.absorb-requires-clause-rule
absorb-requires-clause-rule c =
    let is = c.thief.invariant.taken in
    joins_back _ _ _ _ c.self.invariant.owner (ap (λ (v : HandleView). v.is_owner) is) (ap (λ (v : HandleView). v.thief) is)
