use Rattle.poly_tiling.proofs.Plain.{PinsSo}
use Rattle.poly_tiling.proofs.numbering.number_pins.Given as goal

abbrev pub invariant-loop-name : goal.invariant-loop-name
invariant-loop-name l = PinsSo l.pieces.entries l.name-iterator l.fn.placements.items l.placements.items l.pins.items
