use Rattle.std.proofs.Common.{subst, sym, true, ◌≡◌}
use Rattle.std.specs.Prelude.{IfOk}
use Rattle.poly_design.specs.Listed.{IsListOf}
use Rattle.poly_design.specs.PlacementOrder.{placement_cmp}
use Rattle.poly_design.specs.Placements.{IsPlacement}
use Rattle.poly_design.specs.declared.change.Change.{Change}
use Rattle.poly_place.specs.Touched.{touches}
use Rattle.poly_place.proofs.update.found.Goals as goal

pub returns-in-Cell-clause-ok : goal.returns-in-Cell-clause-ok
returns-in-Cell-clause-ok c =
    subst (λ (x : Change). IfOk c.found_on.result (λ list. IsListOf placement_cmp (λ p. IsPlacement c.args.after.now p × (touches x p ≡ true)) list.items)) (sym c.in-Cell.is) c.found_on.ensures.ok
