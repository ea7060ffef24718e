use Rattle.std.proofs.Common.{drop, take, ◌++◌, ◌≡◌}
use Rattle.poly_tiling.specs.Lists.{put}
use Rattle.poly_frame.proofs.plain.put_number.Given as goal

abbrev pub invariant-loop-k : goal.invariant-loop-k
invariant-loop-k l = record {
  same : l.numbers ≡ l.fn.numbers;
  rest : put l.number l.numbers.items ≡ take l.k l.numbers.items ++ put l.number (drop l.k l.numbers.items);
}
