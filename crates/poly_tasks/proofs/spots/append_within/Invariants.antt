use Rattle.std.proofs.Common.{map, take, ◌++◌, ◌≡◌}
use Rattle.std.specs.List.{filter}
use Rattle.poly_tasks.specs.Spots.{is_within}
use Rattle.poly_tasks.proofs.spots.append_within.Given as goal

abbrev pub invariant-loop-spot : goal.invariant-loop-spot
invariant-loop-spot l = l.atoms.items ≡ l.fn.atoms.items ++ map (λ s. s.atom) (filter (λ s. is_within l.start l.end s.at) (take l.spot-index l.found))
