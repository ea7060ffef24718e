use Rattle.std.proofs.Common.{ap, arith, length, sym, take, ◌-◌, ◌<◌, ◌∙◌, ◌≡◌}
use Rattle.poly_catalogue.specs.Rows.{at, row}
use Rattle.poly_catalogue.specs.Table.{rows_of}
use Rattle.poly_catalogue.proofs.Tabled.{length_rows, row_width, swapped}
use Rattle.poly_catalogue.proofs.positions.Positions.swap_remove.Goals as goal

pub copy_row-requires-clause-from : goal.copy_row-requires-clause-from
copy_row-requires-clause-from c =
    let x = c.copy_row.inside in
    omega (arith, c.requires, ap length c.copy_row.view_is, length_rows x.width x.count x.cells.items)

pub copy_row-requires-clause-same : goal.copy_row-requires-clause-same
copy_row-requires-clause-same c =
    let x = c.copy_row.inside in
    let rows = rows_of x.width x.count x.cells.items in
    let long : length rows ≡ x.count = length_rows x.width x.count x.cells.items in
    let low : c.args.index < x.count = omega (arith, c.requires, ap length c.copy_row.view_is, long) in
    sym (ap (λ rs. length (row rs c.args.index)) c.copy_row.view_is)
    ∙ row_width x.width x.count x.cells.items c.args.index c.copy_row.invariant low
    ∙ sym (row_width x.width x.count x.cells.items (x.count - 1) c.copy_row.invariant (omega arith))
    ∙ ap (λ rs. length (row rs (x.count - 1))) c.copy_row.view_is

pub returns-clause-rows : goal.returns-clause-rows
returns-clause-rows c =
    λ a b.
    let x = c.copy_row.inside in
    let after = c.copy_row-2.new.self in
    let n = x.count - 1 in
    let long : length c.args.self.now ≡ x.count = sym (ap length c.copy_row.view_is) ∙ length_rows x.width x.count x.cells.items in
    ap (λ rs. at rs a b) c.pop.ensures
    ∙ ap (λ k. at (take (k - 1) after) a b) (c.copy_row-2.ensures.even ∙ long)
    ∙ swapped c.args.self.now after c.args.index n (omega (arith, long, c.requires)) (omega (arith, long, c.requires)) c.copy_row-2.ensures.even c.copy_row-2.ensures.over a b
