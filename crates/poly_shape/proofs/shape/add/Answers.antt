use Rattle.std.proofs.Common.{◌≡◌, subst}
use Rattle.std.specs.List.{Contains, insert}
use Rattle.poly_shape.specs.Order.{cells_total}
use Rattle.poly_shape.proofs.Ascending.{ascending_insert, adds_insert, adds_same, searchable, found_is, same_cells}
use Rattle.poly_shape.proofs.shape.add.Goals as goal

pub returns-in-Ok-clause-adds : goal.returns-in-Ok-clause-adds
returns-in-Ok-clause-adds c =
    let there = found_is cells_total same_cells c.deref.result.now c.args.cells _ c.in-Ok.ensures.bound c.in-Ok.ensures.ok in
    adds_same c.args.list.now.items c.args.cells (subst (λ l. Contains l c.args.cells) c.deref.ensures.value there)

pub returns-in_ok-insert-in-Err-clause-ascending : goal.returns-in_ok-insert-in-Err-clause-ascending
returns-in_ok-insert-in-Err-clause-ascending c =
    let position = rw c.deref.ensures.value at c.in-Err.ensures.position in
    let bound = rw c.deref.ensures.value at c.in-Err.ensures.bound in
    let parts = position (searchable cells_total c.args.list.now.items c.args.cells c.requires) in
    let items : c.insert.new.self.items ≡ insert c.args.list.now.items c.in-Err.at c.args.cells = c.in_ok-insert-in-Err.ensures.items in
    rw items (ascending_insert cells_total c.args.list.now.items c.in-Err.at c.args.cells c.requires bound parts.0 parts.1)

pub returns-in_ok-insert-in-Err-clause-adds : goal.returns-in_ok-insert-in-Err-clause-adds
returns-in_ok-insert-in-Err-clause-adds c =
    let items : c.insert.new.self.items ≡ insert c.args.list.now.items c.in-Err.at c.args.cells = c.in_ok-insert-in-Err.ensures.items in
    rw items (adds_insert c.args.list.now.items c.in-Err.at c.args.cells)
