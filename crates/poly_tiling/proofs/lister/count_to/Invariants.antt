use Rattle.std.proofs.Common.{take, ◌≡◌, ◌≤◌}
use Rattle.poly_tiling.specs.Puzzle.{count}
use Rattle.poly_tiling.proofs.lister.count_to.Given as goal

abbrev pub invariant-loop-p : goal.invariant-loop-p
invariant-loop-p l = record {
  value : l.n ≡ count l.view (take l.p-index l.numbers) l.item;
  low : l.n ≤ l.limit;
}
