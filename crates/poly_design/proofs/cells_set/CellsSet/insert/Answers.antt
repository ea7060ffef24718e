use Rattle.poly_shape.specs.Order.{cells_total}
use Rattle.poly_shape.proofs.Ascending.{adds_insert}
use Rattle.poly_design.proofs.Entries.{insert_at_gap, insert_present}
use Rattle.poly_design.proofs.Sets.{ascending_at_gap}
use Rattle.poly_design.proofs.cells_set.CellsSet.insert.Goals as goal

pub invariant_of-self-in-Err : goal.invariant_of-self-in-Err
invariant_of-self-in-Err c =
    let gap = rw (← c.self.view_is) at c.in-Err.ensures.gap in
    rw c.in_ok-insert-in-Err.ensures.items (ascending_at_gap cells_total c.self.inside.list.items c.in-Err.at c.args.cells c.self.invariant gap)

pub returns-in_ok-insert-in-Err-clause-adds : goal.returns-in_ok-insert-in-Err-clause-adds
returns-in_ok-insert-in-Err-clause-adds c = rw (c.in_ok-insert-in-Err.ensures.items, ← c.self.view_is) (adds_insert c.self.inside.list.items c.in-Err.at c.args.cells)

pub returns-in_ok-insert-in-Err-clause-ascending : goal.returns-in_ok-insert-in-Err-clause-ascending
returns-in_ok-insert-in-Err-clause-ascending c = invariant_of-self-in-Err c

pub returns-in-Ok-clause-list : goal.returns-in-Ok-clause-list
returns-in-Ok-clause-list c =
    let found = rw (← c.self.view_is) at c.in-Ok.ensures.found in
    rw (← c.self.view_is) (insert_present cells_total c.self.inside.list.items c.in-Ok.field-0 c.args.cells c.self.invariant found)

pub returns-in_ok-insert-in-Err-clause-list : goal.returns-in_ok-insert-in-Err-clause-list
returns-in_ok-insert-in-Err-clause-list c =
    let gap = rw (← c.self.view_is) at c.in-Err.ensures.gap in
    rw (c.in_ok-insert-in-Err.ensures.items, ← c.self.view_is) (insert_at_gap cells_total c.self.inside.list.items c.in-Err.at c.args.cells gap)
