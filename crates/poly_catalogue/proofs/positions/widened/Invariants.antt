use Rattle.std.proofs.Common.{length, map, replicate, take, ◌*◌, ◌++◌, ◌-◌, ◌≡◌}
use Rattle.poly_catalogue.specs.Table.{rows_of}
use Rattle.poly_catalogue.proofs.positions.widened.Given as goal

abbrev pub invariant-loop-index : goal.invariant-loop-index
invariant-loop-index l = record {
  rows : rows_of l.wider l.index l.list.items ≡ take l.index (map (λ r. r ++ replicate (l.wider - l.width) 0) (rows_of l.width l.count l.cells));
  whole : length l.list.items ≡ l.index * l.wider;
}
