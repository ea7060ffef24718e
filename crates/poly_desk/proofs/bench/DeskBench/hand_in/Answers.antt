use Rattle.poly_desk.proofs.Passes.{each_given}
use Rattle.poly_desk.proofs.bench.DeskBench.hand_in.Goals as goal

pub returns-clause-given : goal.returns-clause-given
returns-clause-given g c = each_given _ _ _ _ _ _ _ c.hand_in.result c.hand_in.ensures.receipt c.hand_in.ensures.done
