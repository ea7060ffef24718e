use Rattle.std.proofs.Common.{ℕ, ◌<◌, get_or}
use Rattle.std.specs.List.{Contains}
use Rattle.poly_design.specs.Listed.{AddsAll}
use Rattle.poly_design.specs.Moved.{IsShifted}
use Rattle.poly_design.proofs.places.add_all.Given as goal

abbrev pub invariant-loop-to : goal.invariant-loop-to
invariant-loop-to l = AddsAll (λ k. (i : ℕ) × (i < l.to-index) × IsShifted (Contains l.board) l.forbidden l.cells l.first (get_or l.board i l.first) k) l.fn.list.items l.list.items
