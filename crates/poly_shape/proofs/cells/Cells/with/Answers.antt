use Rattle.std.proofs.lemmas.List.{take_rest}
use Rattle.poly_shape.specs.Order.{spot_total}
use Rattle.poly_shape.proofs.Ascending.{ascending_insert, adds_insert, searchable}
use Rattle.poly_shape.proofs.cells.Cells.with.Goals as goal

pub joined-requires-clause-ascending : goal.joined-requires-clause-ascending
joined-requires-clause-ascending c =
    let up = c.as_slice-cells.ensures.ascending in
    let position = rw c.as_slice-cells.ensures.value at c.in-Err.ensures.position in
    let bound = rw c.as_slice-cells.ensures.value at c.in-Err.ensures.bound in
    let parts = position (searchable spot_total c.args.self c.args.cell up) in
    rw (c.as_slice-cells.ensures.value, take_rest) (ascending_insert spot_total c.args.self c.in-Err.at c.args.cell up bound parts.0 parts.1)

pub returns-in-Err-clause-adds : goal.returns-in-Err-clause-adds
returns-in-Err-clause-adds c = rw (c.joined.ensures, c.as_slice-cells.ensures.value, take_rest) (adds_insert c.args.self c.in-Err.at c.args.cell)
