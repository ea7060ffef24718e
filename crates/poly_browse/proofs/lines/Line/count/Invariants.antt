use Rattle.std.proofs.Common.{false, get_or, take, ◌≡◌, ◌≤◌}
use Rattle.poly_tiling.specs.Lists.{tally}
use Rattle.poly_browse.proofs.lines.Line.count.Given as goal

abbrev pub invariant-loop-number : goal.invariant-loop-number
invariant-loop-number l = record {
  value : l.count ≡ tally (λ n. get_or l.self.flags.items n false) (take l.number-index l.numbers);
  most : l.count ≤ l.number-index;
}
