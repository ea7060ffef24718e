use Rattle.std.proofs.Common.{take, ◌≡◌, ◌≤◌}
use Rattle.poly_tiling.specs.Puzzle.{count}
use Rattle.poly_tiling.proofs.view.View.count.Given as goal

abbrev pub invariant-loop-p : goal.invariant-loop-p
invariant-loop-p l = record {
  value : l.n ≡ count l.self (take l.p-index l.numbers) l.item;
  most : l.n ≤ l.p-index;
}
