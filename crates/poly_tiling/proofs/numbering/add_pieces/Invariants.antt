use Rattle.poly_tiling.proofs.Plain.{AddsPieces}
use Rattle.poly_tiling.proofs.numbering.add_pieces.Given as goal

abbrev pub invariant-loop-name : goal.invariant-loop-name
invariant-loop-name l = AddsPieces l.pieces.entries l.name-iterator l.fn.list.items l.list.items
