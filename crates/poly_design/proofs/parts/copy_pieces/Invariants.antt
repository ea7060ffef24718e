use Rattle.std.proofs.Common.{◌≡◌, ◌++◌}
use Rattle.poly_design.proofs.parts.copy_pieces.Given as goal

abbrev pub invariant-loop-name : goal.invariant-loop-name
invariant-loop-name l = l.copy.entries ++ l.name-iterator ≡ l.pieces.entries
