use Rattle.std.proofs.Common.{◌∙◌, ◌++◌, List, map, ap, subst}
use Rattle.std.specs.List.{Contains}
use Rattle.std.specs.Map.{keys_of}
use Rattle.poly_grid.specs.Spot.{Spot}
use Rattle.poly_shape.specs.Order.{cells_cmp}
use Rattle.poly_design.specs.Name.{name_cmp}
use Rattle.poly_design.specs.Listed.{IsListOf}
use Rattle.poly_design.specs.Placements.{IsPlace, IsPlacement}
use Rattle.poly_design.specs.declared.spec.Spec.{Spec}
use Rattle.poly_design.proofs.Sets.{ascending_from_sorted, listed_same}
use Rattle.poly_design.proofs.Rows.{IsOfEntry, named, start, more, whole_list, none_on_blocked, placement_on_exactly}
use Rattle.poly_design.proofs.Accepted.{none_if}
use Rattle.poly_design.proofs.listing.placements_on.Goals as goal

pub returns-then-not-contains_key-clause-ok : goal.returns-then-not-contains_key-clause-ok
returns-then-not-contains_key-clause-ok c = λ grid. rw c.new-list.ensures.items (none_on_blocked grid c.args.cells.now.entries c.args.pieces.now.entries c.args.cell (none_if _ c.if-not-contains_key.ensures))

pub loop-name-init : goal.loop-name-init
loop-name-init c = rw (c.into_iter-name-iterator.ensures.into_iter_gives.0, c.new-list.ensures.items)
    (start (λ s k. IsPlace (Contains (keys_of c.args.cells.now.entries)) s k × Contains k c.args.cell) c.args.pieces.now.entries)

pub loop-name-preserved : goal.loop-name-preserved
loop-name-preserved c =
    more (λ s k. IsPlace (Contains (keys_of c.args.cells.now.entries)) s k × Contains k c.args.cell) c.args.pieces.now.entries _ _ c.loop-name.list.items _ c.in-Some.name.now c.in-Some.spec.now c.in_ok-found.found.items
    (ascending_from_sorted name_cmp (keys_of c.args.pieces.now.entries) c.into_iter-name-iterator.ensures.into_iter_gives.5)
    c.loop-name.invariant
    c.in-Some.ensures.steps
    (subst (λ (b : List Spot). IsListOf cells_cmp (λ k. IsPlace (Contains b) c.in-Some.spec.now k × Contains k c.args.cell) c.in_ok-found.found.items) c.in_ok-board.ensures.ok c.in_ok-found.ensures.ok)
    (c.in_ok-append.ensures.ok ∙ ap (λ (l : List (List Spot)). c.loop-name.list.items ++ map (named c.in-Some.name.now) l) c.deref.ensures.value)

pub returns-clause-ok : goal.returns-clause-ok
returns-clause-ok c = λ grid.
    let P : Spec → List Spot → Type 0 = λ s k. IsPlace (Contains (keys_of c.args.cells.now.entries)) s k × Contains k c.args.cell in
    listed_same (IsOfEntry P c.args.pieces.now.entries) (λ p. IsPlacement (record { grid = grid; cells = c.args.cells.now.entries; pieces = c.args.pieces.now.entries }) p × Contains p.cells c.args.cell) c.loop-name.list.items
    (whole_list P c.args.pieces.now.entries _ c.loop-name.list.items c.loop-name.invariant c.in-None.ensures.steps.0)
    (placement_on_exactly grid c.args.cells.now.entries c.args.pieces.now.entries c.args.cell c.requires)
