use Rattle.std.proofs.Common.{◌≤◌, length}
use Rattle.std.specs.List.{Contains}
use Rattle.std.specs.Map.{keys_of}
use Rattle.poly_design.specs.Placements.{IsPlace}
use Rattle.poly_design.proofs.Rows.{IsListedSoFar}
use Rattle.poly_design.proofs.listing.all_placements.Given as goal

abbrev pub invariant-loop-name : goal.invariant-loop-name
invariant-loop-name l = record {
  listed : IsListedSoFar (IsPlace (Contains (keys_of l.cells.entries))) l.pieces.entries l.name-iterator l.list.items;
  few : length l.list.items ≤ 20000;
}
