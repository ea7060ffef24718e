use Rattle.std.specs.List.{Contains}
use Rattle.std.specs.Map.{keys_of}
use Rattle.poly_design.specs.Placements.{IsPlace}
use Rattle.poly_design.proofs.Rows.{IsListedSoFar}
use Rattle.poly_design.proofs.listing.placements_on.Given as goal

abbrev pub invariant-loop-name : goal.invariant-loop-name
invariant-loop-name l = IsListedSoFar (λ s k. IsPlace (Contains (keys_of l.cells.entries)) s k × Contains k l.cell) l.pieces.entries l.name-iterator l.list.items
