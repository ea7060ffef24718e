use Rattle.std.proofs.Common.{length, ◌+◌, ◌≡◌}
use Rattle.poly_lists.specs.Jumps.{AreRight}
use Rattle.poly_lists.proofs.others.jumps_of.Given as goal

abbrev pub invariant-loop : goal.invariant-loop
invariant-loop l = (length l.jumps.items ≡ l.counter + 1) × AreRight l.nodes l.jumps.items
