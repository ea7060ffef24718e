use Rattle.std.proofs.Common.{cond, eqb, false, sym, true, ◌∙◌}
use Rattle.poly_report.proofs.Heads.{all_heads}
use Rattle.poly_report.proofs.arms.is_apart.Goals as goal

pub returns : goal.returns
returns c = c.is_no_arm.ensures ∙ sym (all_heads (λ y. cond (eqb c.args.number y) false true) c.args.arms.now)
