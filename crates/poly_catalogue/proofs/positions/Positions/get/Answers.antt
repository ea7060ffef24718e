use Rattle.std.proofs.Common.{ap, arith, sym, ◌*◌, ◌+◌, ◌∙◌}
use Rattle.poly_catalogue.specs.Rows.{at}
use Rattle.poly_catalogue.proofs.Tabled.{cell_is, cell_some, noted}
use Rattle.poly_catalogue.proofs.positions.Positions.get.Goals as goal

pub overflow_mul-tiling : goal.overflow_mul-tiling
overflow_mul-tiling c =
    let x = c.self.inside in
    let low = noted x.width x.count x.cells.items c.args.self.now c.args.tiling c.args.nth c.self.view_is c.self.invariant c.requires in
    omega (arith, low.2)

pub overflow_add-tiling : goal.overflow_add-tiling
overflow_add-tiling c =
    let x = c.self.inside in
    let low = noted x.width x.count x.cells.items c.args.self.now c.args.tiling c.args.nth c.self.view_is c.self.invariant c.requires in
    omega (arith, low.2)

pub index-requires : goal.index-requires
index-requires c =
    let x = c.self.inside in
    let low = noted x.width x.count x.cells.items c.args.self.now c.args.tiling c.args.nth c.self.view_is c.self.invariant c.requires in
    omega (arith, low.2)

pub returns : goal.returns
returns c =
    let x = c.self.inside in
    let low = noted x.width x.count x.cells.items c.args.self.now c.args.tiling c.args.nth c.self.view_is c.self.invariant c.requires in
    ap (λ rs. at rs c.args.tiling c.args.nth) (sym c.self.view_is)
    ∙ cell_is x.width x.count x.cells.items c.args.tiling c.args.nth low.0 low.1
    ∙ cell_some x.cells.items (c.args.tiling * x.width + c.args.nth) c.index.result.now low.2 c.index.ensures
