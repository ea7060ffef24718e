use Rattle.std.proofs.Common.{take}
use Rattle.poly_catalogue.specs.Listed.{AreMarked}
use Rattle.poly_catalogue.proofs.marks.having.Given as goal

abbrev pub invariant-loop-number : goal.invariant-loop-number
invariant-loop-number l = AreMarked l.listing (take l.number-index l.numbers) l.marks.items
