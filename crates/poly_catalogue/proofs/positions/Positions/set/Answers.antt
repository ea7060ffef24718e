use Rattle.std.proofs.Common.{Some, ap, arith, length, set, sym, ◌*◌, ◌+◌, ◌∙◌}
use Rattle.poly_catalogue.specs.Rows.{at, but, row}
use Rattle.poly_catalogue.proofs.Tabled.{cell_puts, length_rows, noted, set_width}
use Rattle.poly_catalogue.proofs.positions.Positions.set.Goals as goal

pub overflow_mul-tiling : goal.overflow_mul-tiling
overflow_mul-tiling c =
    let x = c.self.inside in
    let low = noted x.width x.count x.cells.items c.args.self.now c.args.tiling c.args.nth c.self.view_is c.self.invariant c.requires in
    omega (arith, low.2)

pub overflow_add-tiling : goal.overflow_add-tiling
overflow_add-tiling c =
    let x = c.self.inside in
    let low = noted x.width x.count x.cells.items c.args.self.now c.args.tiling c.args.nth c.self.view_is c.self.invariant c.requires in
    omega (arith, low.2)

pub index_mut-requires : goal.index_mut-requires
index_mut-requires c =
    let x = c.self.inside in
    let low = noted x.width x.count x.cells.items c.args.self.now c.args.tiling c.args.nth c.self.view_is c.self.invariant c.requires in
    omega (arith, low.2)

pub returns-clause-put : goal.returns-clause-put
returns-clause-put c =
    λ a b.
    let x = c.self.inside in
    let low = noted x.width x.count x.cells.items c.args.self.now c.args.tiling c.args.nth c.self.view_is c.self.invariant c.requires in
    cell_puts x.width x.count x.cells.items c.args.tiling c.args.nth c.args.position c.self.invariant low.0 low.1 a b
    ∙ ap (λ rs. but (at rs) c.args.tiling c.args.nth (Some c.args.position) a b) c.self.view_is

pub returns-clause-even : goal.returns-clause-even
returns-clause-even c =
    let x = c.self.inside in
    length_rows x.width x.count (set x.cells.items (c.args.tiling * x.width + c.args.nth) c.args.position) ∙ sym (length_rows x.width x.count x.cells.items) ∙ ap length c.self.view_is

pub returns-clause-wide : goal.returns-clause-wide
returns-clause-wide c =
    λ a.
    let x = c.self.inside in
    let low = noted x.width x.count x.cells.items c.args.self.now c.args.tiling c.args.nth c.self.view_is c.self.invariant c.requires in
    set_width x.width x.count x.cells.items c.args.tiling c.args.nth c.args.position low.0 low.1 a ∙ ap (λ rs. length (row rs a)) c.self.view_is
