use Rattle.std.proofs.Common.{List, get_or, refl, subst, sym, ◌≡◌}
use Rattle.std.specs.List.{Contains}
use Rattle.poly_grid.specs.Spot.{Spot}
use Rattle.poly_shape.proofs.Ascending.{searchable}
use Rattle.poly_design.specs.PlacementOrder.{placement_total}
use Rattle.poly_design.specs.declared.placement.Placement.{Placement}
use Rattle.poly_design.proofs.Outside.{same_placement}
use Rattle.poly_design.proofs.Sets.{gap_lacks}
use Rattle.poly_browse.specs.Symmetries.{Carries, Takes, TakesPlacement}
use Rattle.poly_browse.proofs.Rows.{if_none_any}
use Rattle.poly_browse.proofs.Sets.{one_taken}
use Rattle.poly_browse.proofs.symmetry.index_of_image.Goals as goal

pub returns-in_err-cells-clause-none : goal.returns-in_err-cells-clause-none
returns-in_err-cells-clause-none c = if_none_any c.from_residual.result _ (λ q here takes.
    let a = c.in_err-cells.ensures.none in
    let b = takes.cells.into a.0 (subst (λ (l : List Spot). Contains l a.0) c.as_slice.ensures.value a.1) in
    a.2 b.0 ((c.requires.sets q here).1 b.0 b.1) b.2)

pub returns-in-Ok-clause-some : goal.returns-in-Ok-clause-some
returns-in-Ok-clause-some c =
    let image : Placement = record { name = c.args.placement.now.name; cells = c.in_ok-cells.cells } in
    let carried : Carries (Takes c.args.grid c.args.motion) (Contains c.args.placement.now.cells) (Contains c.in_ok-cells.cells) = subst (λ (l : List Spot). Carries (Takes c.args.grid c.args.motion) (Contains l) (Contains c.in_ok-cells.cells)) c.as_slice.ensures.value c.in_ok-cells.ensures.carried in
    let is : get_or c.args.placements.now c.in-Ok.to c.args.placement.now ≡ image = same_placement _ _ (c.in-Ok.ensures.ok c.args.placement.now) in
    subst (TakesPlacement c.args.grid c.args.motion c.args.placement.now) (sym is) (record { named = refl; cells = carried })

pub returns-in-Err-clause-none : goal.returns-in-Err-clause-none
returns-in-Err-clause-none c = λ q here takes.
    let image : Placement = record { name = c.args.placement.now.name; cells = c.in_ok-cells.cells } in
    let carried : Carries (Takes c.args.grid c.args.motion) (Contains c.args.placement.now.cells) (Contains c.in_ok-cells.cells) = subst (λ (l : List Spot). Carries (Takes c.args.grid c.args.motion) (Contains l) (Contains c.in_ok-cells.cells)) c.as_slice.ensures.value c.in_ok-cells.ensures.carried in
    let taken : TakesPlacement c.args.grid c.args.motion c.args.placement.now image = record { named = refl; cells = carried } in
    let is : image ≡ q = one_taken c.args.grid c.args.motion c.args.placement.now image q c.in_ok-cells.ensures.ascending (c.requires.sets q here).0 taken takes in
    let gap = c.in-Err.ensures.position (searchable placement_total c.args.placements.now image c.requires.ascend) in
    gap_lacks placement_total image c.args.placements.now c.in-Err.field-0 (record { within = c.in-Err.ensures.bound; below = gap.0; above = gap.1 }) (subst (Contains c.args.placements.now) (sym is) here)
