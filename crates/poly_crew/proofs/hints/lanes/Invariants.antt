use Rattle.std.proofs.Common.{◌≡◌, length}
use Rattle.poly_crew.proofs.hints.lanes.Given as goal

abbrev pub invariant-loop-made : goal.invariant-loop-made
invariant-loop-made l = length l.all.items ≡ l.made
