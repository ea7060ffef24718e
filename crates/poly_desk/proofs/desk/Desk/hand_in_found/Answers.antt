use Rattle.std.proofs.Common.{sym, ◌∙◌}
use Rattle.poly_desk.proofs.Passes.{report_refused, same_book}
use Rattle.poly_desk.proofs.desk.Desk.hand_in_found.Goals as goal

pub returns-in-Err-clause-why : goal.returns-in-Err-clause-why
returns-in-Err-clause-why g c = report_refused _ _ _ _ _ _ _ _ _ (same_book _ _ _ _ _ (c.deref.ensures ∙ sym c.deref_mut.ensures.value) c.whole.ensures.book) c.in-Err.ensures.why
