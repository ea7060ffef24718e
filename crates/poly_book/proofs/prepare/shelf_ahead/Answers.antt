use Rattle.std.proofs.Common.{subst, sym}
use Rattle.poly_tasks.specs.Meaning.{IsHeldAt}
use Rattle.poly_tasks.proofs.Holding.{held_next}
use Rattle.poly_book.proofs.prepare.shelf_ahead.Goals as goal

pub returns-in-Undo-clause-held : goal.returns-in-Undo-clause-held
returns-in-Undo-clause-held c = λ log h. c.shelf_of_step.ensures.held log (subst (λ o. IsHeldAt log o) (sym c.last.ensures.step) (held_next log _ h.0))

pub returns-in-Redo-clause-held : goal.returns-in-Redo-clause-held
returns-in-Redo-clause-held c = λ log h. c.shelf_of_step-in-Redo.ensures.held log (subst (λ o. IsHeldAt log o) (sym c.ahead.ensures.step) (held_next log _ h.1))
