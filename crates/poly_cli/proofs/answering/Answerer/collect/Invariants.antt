use Rattle.std.proofs.Common.{◌≡◌, ◌≤◌, take, length}
use Rattle.poly_tiling.specs.Shows.{names}
use Rattle.poly_text.specs.Replies.{covered}
use Rattle.poly_cli.proofs.answering.Answerer.collect.Given as goal

abbrev pub invariant-loop-number : goal.invariant-loop-number
invariant-loop-number l = record {
  named : l.self.placements.items ≡ names l.view (take l.number-index l.numbers);
  few : length l.self.placements.items ≤ covered l.self.placements.items;
}
