use Rattle.std.proofs.Common.{take, ◌++◌, ◌≡◌}
use Rattle.poly_tasks.specs.Spots.{spots_from}
use Rattle.poly_tasks.proofs.spots.append_spots.Given as goal

abbrev pub invariant-loop-at : goal.invariant-loop-at
invariant-loop-at l = l.found.items ≡ l.fn.found.items ++ spots_from l.placements 0 (take l.at l.guards)
