use Rattle.std.proofs.Common.{ℕ, ◌<◌, [], get_or}
use Rattle.std.specs.List.{Contains}
use Rattle.poly_design.specs.Listed.{AddsAll}
use Rattle.poly_design.specs.Moved.{IsSomewhere}
use Rattle.poly_design.proofs.places.places.Given as goal

abbrev pub invariant-loop-i : goal.invariant-loop-i
invariant-loop-i l = AddsAll (λ k. (i : ℕ) × (i < l.i) × IsSomewhere (Contains l.board) l.spec.forbidden (get_or l.orientations.items i []) k) [] l.list.items
