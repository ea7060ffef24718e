use Rattle.std.proofs.Common.{◌∙◌, ◌++◌, ◌≤◌, List, length, map, refl, ap, subst, inr, arith}
use Rattle.std.specs.List.{Contains}
use Rattle.std.specs.Map.{keys_of}
use Rattle.poly_grid.specs.Spot.{Spot}
use Rattle.poly_shape.specs.Order.{cells_cmp}
use Rattle.poly_design.specs.Name.{name_cmp}
use Rattle.poly_design.specs.Listed.{IsListOf}
use Rattle.poly_design.specs.Placements.{IsPlace, IsPlacement, FewPlacements}
use Rattle.poly_design.proofs.Sets.{ascending_from_sorted, listed_same}
use Rattle.poly_design.proofs.Rows.{IsListedSoFar, IsOfEntry, named, start, more, whole_list, listed_of, placement_exactly}
use Rattle.poly_design.proofs.listing.all_placements.Goals as goal

pub loop-name-init : goal.loop-name-init
loop-name-init c = rw (c.into_iter-name-iterator.ensures.into_iter_gives.0, c.new-list.ensures.items)
    (record { listed = start (IsPlace (Contains (keys_of c.args.cells.now.entries))) c.args.pieces.now.entries; few = omega arith })

pub loop-name-preserved : goal.loop-name-preserved
loop-name-preserved c = record {
  listed = more (IsPlace (Contains (keys_of c.args.cells.now.entries))) c.args.pieces.now.entries _ _ c.loop-name.list.items _ c.in-Some.name.now c.in-Some.spec.now c.in_ok-found.found.items
      (ascending_from_sorted name_cmp (keys_of c.args.pieces.now.entries) c.into_iter-name-iterator.ensures.into_iter_gives.5)
      c.loop-name.invariant.listed
      c.in-Some.ensures.steps
      (subst (λ (b : List Spot). IsListOf cells_cmp (IsPlace (Contains b) c.in-Some.spec.now) c.in_ok-found.found.items) c.in_ok-board.ensures.ok c.in_ok-found.ensures.ok)
      (c.in_ok-append.ensures.ok ∙ ap (λ (l : List (List Spot)). c.loop-name.list.items ++ map (named c.in-Some.name.now) l) c.deref.ensures.value);
  few = omega arith;
}

pub returns-then-len-gt-MAX_PLACEMENTS-clause-why : goal.returns-then-len-gt-MAX_PLACEMENTS-clause-why
returns-then-len-gt-MAX_PLACEMENTS-clause-why c = λ grid. inr (
  refl,
  λ (few : FewPlacements (record { grid = grid; cells = c.args.cells.now.entries; pieces = c.args.pieces.now.entries })).
      let P = IsPlace (Contains (keys_of c.args.cells.now.entries)) in
      let so : IsListedSoFar P c.args.pieces.now.entries c.next.new.self c.append.new.list.items = more P c.args.pieces.now.entries _ _ c.loop-name.list.items _ c.in-Some.name.now c.in-Some.spec.now c.in_ok-found.found.items
      (ascending_from_sorted name_cmp (keys_of c.args.pieces.now.entries) c.into_iter-name-iterator.ensures.into_iter_gives.5)
      c.loop-name.invariant.listed
      c.in-Some.ensures.steps
      (subst (λ (b : List Spot). IsListOf cells_cmp (IsPlace (Contains b) c.in-Some.spec.now) c.in_ok-found.found.items) c.in_ok-board.ensures.ok c.in_ok-found.ensures.ok)
      (c.in_ok-append.ensures.ok ∙ ap (λ (l : List (List Spot)). c.loop-name.list.items ++ map (named c.in-Some.name.now) l) c.deref.ensures.value) in
      let le : length c.append.new.list.items ≤ 20000 = few c.append.new.list.items so.listed.ascending (λ p here. (placement_exactly grid c.args.cells.now.entries c.args.pieces.now.entries c.requires p).0 (listed_of P c.args.pieces.now.entries c.next.new.self c.append.new.list.items so p here)) in
      omega (arith, le, c.if-len-gt-MAX_PLACEMENTS.true, c.len.ensures),
)

pub returns-clause-ok : goal.returns-clause-ok
returns-clause-ok c = λ grid.
    let P = IsPlace (Contains (keys_of c.args.cells.now.entries)) in
    listed_same (IsOfEntry P c.args.pieces.now.entries) (IsPlacement (record { grid = grid; cells = c.args.cells.now.entries; pieces = c.args.pieces.now.entries })) c.loop-name.list.items
    (whole_list P c.args.pieces.now.entries _ c.loop-name.list.items c.loop-name.invariant.listed c.in-None.ensures.steps.0)
    (placement_exactly grid c.args.cells.now.entries c.args.pieces.now.entries c.requires)

pub returns-clause-ascending : goal.returns-clause-ascending
returns-clause-ascending c = (c.in_ok-board.ensures.ascending, ascending_from_sorted name_cmp (keys_of c.args.pieces.now.entries) c.into_iter-name-iterator.ensures.into_iter_gives.5)
