use Rattle.std.proofs.Common.{length, max, ◌≡◌, ◌≤◌}
use Rattle.poly_frame.specs.Walk.{backtrack_to}
use Rattle.poly_frame.proofs.frame.Frame.backtrack_to.Given as goal

abbrev pub invariant-loop-self : goal.invariant-loop-self
invariant-loop-self l = record {
  same : l.self ≡ backtrack_to l.fn.self (max l.level (length l.self.atoms));
  given : l.self.given ≤ l.level;
}

abbrev pub decreases-loop-self : goal.decreases-loop-self
decreases-loop-self l = length l.self.atoms
