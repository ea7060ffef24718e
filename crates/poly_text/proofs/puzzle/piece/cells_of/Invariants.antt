use Rattle.std.proofs.Common.{◌≡◌, drop}
use Rattle.poly_text.specs.Fields.{cells_of}
use Rattle.poly_text.specs.Views.{views}
use Rattle.poly_text.proofs.CellsRead.{with_front}
use Rattle.poly_text.proofs.puzzle.piece.cells_of.Given as goal

abbrev pub invariant-loop-value : goal.invariant-loop-value
invariant-loop-value l = with_front l.cells.items (cells_of (views (drop l.value-index l.values))) ≡ cells_of (views l.values)
