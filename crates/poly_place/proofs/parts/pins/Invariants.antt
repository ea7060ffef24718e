use Rattle.std.proofs.Common.{◌≡◌, ◌++◌}
use Rattle.poly_place.proofs.Pinned.{pins_in}
use Rattle.poly_place.proofs.parts.pins.Given as goal

abbrev pub invariant-loop-name : goal.invariant-loop-name
invariant-loop-name l = l.pins.items ++ pins_in l.name-iterator ≡ pins_in l.design.pieces
