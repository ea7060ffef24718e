use Rattle.std.proofs.Common.{Some, ap, arith, length, replicate, sym, ◌+◌, ◌-◌, ◌∙◌, ◌≡◌}
use Rattle.poly_catalogue.specs.Rows.{at, row}
use Rattle.poly_catalogue.specs.Table.{rows_of}
use Rattle.poly_catalogue.proofs.Tabled.{kept_wider, length_rows, one_more_row, wide_row}
use Rattle.poly_catalogue.proofs.positions.Positions.push_wider.Goals as goal

pub overflow_add-self : goal.overflow_add-self
overflow_add-self c =
    let x = c.self.inside in
    omega (arith, c.requires.few, ap length c.self.view_is, length_rows x.width x.count x.cells.items)

pub returns-clause-kept : goal.returns-clause-kept
returns-clause-kept c =
    λ a b p e.
    let x = c.self.inside in
    let w = c.max-width.result in
    let z = replicate (w - x.width) 0 in
    let cells = c.in_ok-cells.cells.items in
    let before : at (rows_of x.width x.count c.deref.result.now) a b ≡ Some p = ap (λ cs. at (rows_of x.width x.count cs) a b) c.deref.ensures.value ∙ ap (λ rs. at rs a b) c.self.view_is ∙ e in
    let wider : at (rows_of w x.count cells) a b ≡ Some p = ap (λ rs. at rs a b) c.in_ok-cells.ensures.rows ∙ kept_wider (rows_of x.width x.count c.deref.result.now) z a b p before in
    ap (λ cs. at (rows_of w (x.count + 1) cs) a b) c.in_ok-add_zeros.ensures.ok ∙ one_more_row w x.count cells a b p c.in_ok-cells.ensures.whole wider

pub returns-clause-more : goal.returns-clause-more
returns-clause-more c =
    let x = c.self.inside in
    length_rows c.max-width.result (x.count + 1) c.add_zeros.new.list.items ∙ ap (λ n. n + 1) (sym (length_rows x.width x.count x.cells.items) ∙ ap length c.self.view_is)

pub returns-clause-wide : goal.returns-clause-wide
returns-clause-wide c =
    let x = c.self.inside in
    let w = c.max-width.result in
    let long = sym (ap length c.self.view_is) ∙ length_rows x.width x.count x.cells.items in
    let same = ap (λ cs. length (row (rows_of w (x.count + 1) cs) (length c.args.self.now))) c.in_ok-add_zeros.ensures.ok in
    omega (arith, same, wide_row w x.count (length c.args.self.now) c.in_ok-cells.cells.items c.in_ok-cells.ensures.whole long, c.max-width.ensures)
