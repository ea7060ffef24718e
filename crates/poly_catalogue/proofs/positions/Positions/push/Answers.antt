use Rattle.std.proofs.Common.{ap, arith, length, sym, ◌+◌, ◌∙◌}
use Rattle.poly_catalogue.specs.Rows.{at, row}
use Rattle.poly_catalogue.specs.Table.{rows_of}
use Rattle.poly_catalogue.proofs.Tabled.{length_rows, one_more_row, wide_row}
use Rattle.poly_catalogue.proofs.positions.Positions.push.Goals as goal

pub overflow_add-self : goal.overflow_add-self
overflow_add-self c =
    let x = c.self.inside in
    omega (arith, c.requires.few, ap length c.self.view_is, length_rows x.width x.count x.cells.items)

pub returns-clause-kept : goal.returns-clause-kept
returns-clause-kept c =
    λ a b p e.
    let x = c.self.inside in
    ap (λ cs. at (rows_of x.width (x.count + 1) cs) a b) c.in_ok-add_zeros.ensures.ok
    ∙ one_more_row x.width x.count x.cells.items a b p c.self.invariant (ap (λ rs. at rs a b) c.self.view_is ∙ e)

pub returns-clause-more : goal.returns-clause-more
returns-clause-more c =
    let x = c.self.inside in
    length_rows x.width (x.count + 1) c.add_zeros.new.list.items ∙ ap (λ n. n + 1) (sym (length_rows x.width x.count x.cells.items) ∙ ap length c.self.view_is)

pub returns-clause-wide : goal.returns-clause-wide
returns-clause-wide c =
    let x = c.self.inside in
    let long = sym (ap length c.self.view_is) ∙ length_rows x.width x.count x.cells.items in
    let same = ap (λ cs. length (row (rows_of x.width (x.count + 1) cs) (length c.args.self.now))) c.in_ok-add_zeros.ensures.ok in
    omega (arith, same, wide_row x.width x.count (length c.args.self.now) x.cells.items c.self.invariant long, c.if-self-len.false)
