use Rattle.std.proofs.Common.{take, ◌≡◌}
use Rattle.poly_browse.specs.Lines.{joined}
use Rattle.poly_browse.proofs.covers.Masks.are_covered.Given as goal

abbrev pub invariant-loop-number : goal.invariant-loop-number
invariant-loop-number l = l.covered ≡ joined l.self.masks.items (take l.number-index l.numbers)
