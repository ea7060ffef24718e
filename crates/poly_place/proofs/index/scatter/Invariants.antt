use Rattle.std.proofs.Common.{take, ◌≡◌}
use Rattle.poly_place.specs.Index.{has_of, with_numbers}
use Rattle.poly_place.proofs.index.scatter.Given as goal

abbrev pub invariant-loop-number : goal.invariant-loop-number
invariant-loop-number l = l.rows ≡ with_numbers (has_of l.names) (take l.number-index l.numbers) l.fn.rows
