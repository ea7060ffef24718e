use Rattle.std.proofs.Common.{ℕ, ◌<◌, get_or}
use Rattle.std.specs.List.{Contains}
use Rattle.poly_design.specs.Listed.{AddsAll}
use Rattle.poly_design.specs.Moved.{IsShifted}
use Rattle.poly_design.proofs.places.add_on.Given as goal

abbrev pub invariant-loop-from : goal.invariant-loop-from
invariant-loop-from l = AddsAll (λ k. (i : ℕ) × (i < l.from-index) × IsShifted (Contains l.board) l.forbidden l.cells (get_or l.cells i l.cell) l.cell k) l.fn.list.items l.list.items
