use Rattle.std.proofs.Common.{ap, arith, length, sym, ◌<◌, ◌∙◌}
use Rattle.poly_catalogue.specs.Rows.{row}
use Rattle.poly_catalogue.proofs.Tabled.{length_rows, row_width}
use Rattle.poly_catalogue.proofs.positions.Positions.row_width.Goals as goal

pub returns : goal.returns
returns c =
    λ a less.
    let x = c.self.inside in
    let low : a < x.count = omega (arith, less, ap length c.self.view_is, length_rows x.width x.count x.cells.items) in
    sym (ap (λ rs. length (row rs a)) (sym c.self.view_is) ∙ row_width x.width x.count x.cells.items a c.self.invariant low)
