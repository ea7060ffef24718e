use Rattle.std.proofs.Common.{Some, ap, inr, rules, ◌∙◌, ◌≡◌}
use Rattle.std.proofs.lemmas.Result.{err_from_is_err_and}
use Rattle.poly_design.specs.Changes.{inverse_of}
use Rattle.poly_undo.specs.Steps.{next_of}
use Rattle.poly_book.proofs.edit.change_to_undo.Goals as goal

pub returns-in_err-change-clause-why : goal.returns-in_err-change-clause-why
returns-in_err-change-clause-why c =
    let p = err_from_is_err_and c.from_residual.result c.from_residual.ensures.1 in
    let e : next_of c.args.history.now.undo ≡ Some c.in-Some.step.now = search rules in
    rw (p.1, p.2) (inr (c.in_err-change.ensures.why, c.in-Some.step.now, e))

pub returns-clause-top : goal.returns-clause-top
returns-clause-top c =
    let e : next_of c.args.history.now.undo ≡ Some c.in-Some.step.now = search rules in
    (c.in-Some.step.now, e, c.inverse.ensures.value ∙ ap inverse_of c.in_ok-change.ensures.ok)
