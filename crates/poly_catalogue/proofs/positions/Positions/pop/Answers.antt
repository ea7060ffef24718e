use Rattle.std.proofs.Common.{ap, arith, length, sym, take, ◌-◌, ◌∙◌}
use Rattle.poly_catalogue.specs.Table.{rows_of}
use Rattle.poly_catalogue.proofs.Tabled.{length_rows, take_rows}
use Rattle.poly_catalogue.proofs.positions.Positions.pop.Goals as goal

pub returns : goal.returns
returns c =
    let x = c.self.inside in
    let rows = rows_of x.width x.count x.cells.items in
    ap (λ cs. rows_of x.width (x.count - 1) cs) c.truncate.ensures.items
    ∙ take_rows x.width (x.count - 1) x.count x.cells.items (omega arith)
    ∙ ap (λ n. take (n - 1) rows) (sym (length_rows x.width x.count x.cells.items))
    ∙ ap (λ rs. take (length rs - 1) rs) c.self.view_is
