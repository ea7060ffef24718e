use Rattle.std.proofs.Common.{◌≡◌, ◌++◌, map, take}
use Rattle.poly_design.proofs.listing.append.Given as goal

abbrev pub invariant-loop-cells : goal.invariant-loop-cells
invariant-loop-cells l = l.list.items ≡ l.fn.list.items ++ map (λ k. record { name = l.name; cells = k }) (take l.cells-index l.places)
