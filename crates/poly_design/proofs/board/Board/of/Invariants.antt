use Rattle.std.proofs.Common.{◌≡◌, ◌++◌}
use Rattle.std.specs.List.{All}
use Rattle.std.specs.Map.{keys_of}
use Rattle.poly_design.specs.Limits.{IsInRange}
use Rattle.poly_design.proofs.board.Board.of.Given as goal

abbrev pub invariant-loop-cell : goal.invariant-loop-cell
invariant-loop-cell l = record { walked : l.board ++ keys_of l.cell-iterator ≡ keys_of l.modes.entries; in_range : All IsInRange l.board }
