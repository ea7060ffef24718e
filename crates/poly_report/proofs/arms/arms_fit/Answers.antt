use Rattle.std.proofs.Common.{sym, ◌∙◌}
use Rattle.poly_report.proofs.Heads.{not_all, not_once, rest_fits}
use Rattle.poly_report.proofs.arms.arms_fit.Goals as goal

pub returns-then-not-stand_once : goal.returns-then-not-stand_once
returns-then-not-stand_once c = not_once c.args.frame.now.scene c.args.frame.now.atoms c.args.item.now c.args.arms.now (sym c.stand_once.ensures ∙ c.if-not-stand_once.true)

pub returns-then-not-all_have : goal.returns-then-not-all_have
returns-then-not-all_have c =
    not_all c.args.frame.now.scene c.args.frame.now.atoms c.args.item.now c.args.arms.now (sym c.stand_once.ensures ∙ c.if-not-stand_once.false) (sym c.all_have.ensures ∙ c.if-not-all_have.true)

pub returns : goal.returns
returns c =
    rest_fits c.args.frame.now.scene c.args.frame.now.atoms c.args.item.now c.args.arms.now c.count_allowed.result c.count_allowed-2.result c.saturating_sub-others.result c.least.result c.count_allowed.ensures.once
    (sym c.stand_once.ensures ∙ c.if-not-stand_once.false) (sym c.all_have.ensures ∙ c.if-not-all_have.false) c.count_allowed.ensures.value c.count_allowed-2.ensures c.saturating_sub-others.ensures c.least.ensures
