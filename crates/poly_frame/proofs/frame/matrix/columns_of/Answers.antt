use Rattle.std.proofs.Common.{ap, length, subst, sym, ◌∙◌}
use Rattle.poly_frame.specs.Matrices.{IsMatrix, matrix_of}
use Rattle.poly_frame.specs.declared.frame.matrix.Matrix.{Matrix}
use Rattle.poly_frame.proofs.Matrices.{narrow_all, narrow_numbers, narrow_row}
use Rattle.poly_frame.proofs.frame.matrix.columns_of.Goals as goal

pub narrowed-made-requires-clause-whole : goal.narrowed-made-requires-clause-whole
narrowed-made-requires-clause-whole c = subst (λ (m : Matrix). IsMatrix c.args.view.now m) (sym c.matrix-2.ensures) c.requires.part

pub narrowed-made-requires-clause-row : goal.narrowed-made-requires-clause-row
narrowed-made-requires-clause-row c = ap length c.deref-2.ensures.value ∙ c.requires.len ∙ ap (λ (m : Matrix). m.width) (sym c.matrix-2.ensures)

pub returns-clause-row : goal.returns-clause-row
returns-clause-row c = λ f R.
    let narrow = c.in_ok-narrow.narrow in
    let whole = matrix_of c.args.part in
    let e = narrow_numbers f whole c.matrix-2.result.now c.args.row.items c.deref-2.result.now narrow.numbers.items c.matrix-2.ensures c.deref-2.ensures.value R c.in_ok-narrow.ensures.numbers in
    narrow_row f whole.numbers.items narrow c.first_row.new.row.items c.len.result e (c.len.ensures ∙ narrow.numbers.ok.0) c.in-Ok.ensures.inside c.in-Ok.ensures.past

pub returns-clause-all : goal.returns-clause-all
returns-clause-all c = λ f R.
    let narrow = c.in_ok-narrow.narrow in
    let whole = matrix_of c.args.part in
    let e = narrow_numbers f whole c.matrix-2.result.now c.args.row.items c.deref-2.result.now narrow.numbers.items c.matrix-2.ensures c.deref-2.ensures.value R c.in_ok-narrow.ensures.numbers in
    narrow_all f whole.numbers.items narrow.numbers.items e
