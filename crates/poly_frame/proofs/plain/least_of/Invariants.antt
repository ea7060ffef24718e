use Rattle.std.proofs.Common.{drop, length, ◌≡◌, ◌≤◌}
use Rattle.poly_frame.specs.Open.{least_at}
use Rattle.poly_frame.proofs.plain.least_of.Given as goal

abbrev pub decreases-loop-k : goal.decreases-loop-k
decreases-loop-k l = l.k

abbrev pub invariant-loop-k : goal.invariant-loop-k
invariant-loop-k l = record {
  within : l.k ≤ length l.atoms;
  rest : l.least ≡ least_at l.view (drop l.k l.atoms) l.item;
}
