use Rattle.std.proofs.Common.{take}
use Rattle.poly_tasks.specs.Judged.{AreLacks}
use Rattle.poly_tasks.proofs.judge.lead_of.Given as goal

abbrev pub invariant-loop-k : goal.invariant-loop-k
invariant-loop-k l = AreLacks (take l.k l.guards)
