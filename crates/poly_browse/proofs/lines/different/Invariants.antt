use Rattle.std.proofs.Common.{take}
use Rattle.poly_browse.specs.Lines.{AreDifferent}
use Rattle.poly_browse.proofs.lines.different.Given as goal

abbrev pub invariant-loop-item : goal.invariant-loop-item
invariant-loop-item l = AreDifferent (take l.item-index l.items) l.list.items
