use Rattle.std.proofs.Common.{inl, inr, Ok, Err}
use Rattle.std.proofs.lemmas.Result.{err_from_is_err_and}
use Rattle.poly_text.proofs.Browses.{browse_says}
use Rattle.poly_text.proofs.command.command_of.Goals as goal

pub returns-in_ok-question : goal.returns-in_ok-question
returns-in_ok-question c = browse_says c.args.grid c.args.words.now _ (Ok c.in_ok-question.question) _ _ c.in-len1-up.len_at_least c.eq.ensures c.as_slice.ensures c.if-eq.true c.in_ok-question.ensures

pub returns-in_err-question : goal.returns-in_err-question
returns-in_err-question c =
    let p = err_from_is_err_and c.from_residual.result c.from_residual.ensures.1 in
    rw (p.1, p.2) (elim c.in_err-question.ensures [
      | inl m ↦ inl m
      | inr said ↦ inr (browse_says c.args.grid c.args.words.now _ (Err c.in_err-question.field-0.0) _ _ c.in-len1-up.len_at_least c.eq.ensures c.as_slice.ensures c.if-eq.true said)
    ])
