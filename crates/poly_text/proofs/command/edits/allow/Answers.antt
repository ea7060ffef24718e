use Rattle.std.proofs.lemmas.Result.{err_from_is_err_and}
use Rattle.poly_design.specs.declared.edit.Edit.TheVariants as edit
use Rattle.poly_text.proofs.command.edits.allow.Goals as goal

pub returns-in_err-name : goal.returns-in_err-name
returns-in_err-name c g =
    let p = err_from_is_err_and c.from_residual.result c.from_residual.ensures.1 in
    rw (p.1, p.2) (c.in_err-name.ensures g (λ name set. edit.Allow name set))

pub returns : goal.returns
returns c g = c.in_ok-name.ensures g (λ name set. edit.Allow name set)
