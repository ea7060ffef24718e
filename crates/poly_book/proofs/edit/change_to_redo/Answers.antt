use Rattle.std.proofs.Common.{Some, inr, rules, ◌≡◌}
use Rattle.std.proofs.lemmas.Result.{err_from_is_err_and}
use Rattle.poly_undo.specs.Steps.{next_of}
use Rattle.poly_book.proofs.edit.change_to_redo.Goals as goal

pub returns-in_err-change-clause-why : goal.returns-in_err-change-clause-why
returns-in_err-change-clause-why c =
    let p = err_from_is_err_and c.from_residual.result c.from_residual.ensures.1 in
    let e : next_of c.args.history.now.redo ≡ Some c.in-Some.step.now = search rules in
    rw (p.1, p.2) (inr (c.in_err-change.ensures.why, c.in-Some.step.now, e))

pub returns-clause-top : goal.returns-clause-top
returns-clause-top c =
    let e : next_of c.args.history.now.redo ≡ Some c.in-Some.step.now = search rules in
    (c.in-Some.step.now, e, c.in_ok-change.ensures.ok)
