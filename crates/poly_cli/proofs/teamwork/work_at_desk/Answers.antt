use Rattle.std.proofs.Common.{sym, ◌∙◌}
use Rattle.poly_cli.proofs.Crewed.{not_settled_is_unsettled, steps_stay}
use Rattle.poly_cli.proofs.teamwork.work_at_desk.Goals as goal

pub returns-in-Ok-settle_up-clause-stay : goal.returns-in-Ok-settle_up-clause-stay
returns-in-Ok-settle_up-clause-stay g c = steps_stay _ _ _ _ _ _ c.in-Ok-settle_up.ensures.ok c.let_work-after.ensures ∙ sym c.requires.steps

pub returns-in-Err-settle_up-clause-why : goal.returns-in-Err-settle_up-clause-why
returns-in-Err-settle_up-clause-why g c = not_settled_is_unsettled _ _ _ _ _ _ _ c.in-Err-settle_up.ensures.why
