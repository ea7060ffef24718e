use Rattle.std.proofs.Common.{ap, arith}
use Rattle.poly_crew.specs.declared.rule.HandleView.{HandleView}
use Rattle.poly_crew.proofs.Steps.{steals}
use Rattle.poly_crew.proofs.thief.Thief.steal.Goals as goal

pub steal_as-requires-clause-takes : goal.steal_as-requires-clause-takes
steal_as-requires-clause-takes c =
    let thief = ap (λ (v : HandleView). v.thief) c.self.invariant.taken in
    steals _ _ 1 (λ _ none. omega arith)
