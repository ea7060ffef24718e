use Rattle.std.proofs.Common.{subst, sym, ◌≤◌}
use Rattle.std.specs.Prelude.{IfErr, IfOk}
use Rattle.poly_book.specs.Keeps.{state_of}
use Rattle.poly_book.specs.Settled.{AreReported, AreReportedBefore, IsNotSettled, IsSettled}
use Rattle.poly_book.specs.States.{State}
use Rattle.poly_book.proofs.settle.settle_all.Goals as goal

pub returns-clause-ok : goal.returns-clause-ok
returns-clause-ok c = subst (λ (z : State). IfOk c.settle_turns-settled.result (λ n. IsSettled (state_of c.args.parts.now) z n)) (sym c.note_for_change.ensures.same) c.settle_turns-settled.ensures.ok

pub returns-clause-reports : goal.returns-clause-reports
returns-clause-reports c = subst (λ (z : State). IfOk c.settle_turns-settled.result (λ n. (n ≤ c.args.turns) × AreReported c.args.nodes n (state_of c.args.parts.now) z)) (sym c.note_for_change.ensures.same) c.settle_turns-settled.ensures.reports

pub returns-clause-applied : goal.returns-clause-applied
returns-clause-applied c = subst (λ (z : State). IfErr c.settle_turns-settled.result (λ e. AreReportedBefore e c.args.turns c.args.nodes (state_of c.args.parts.now) z)) (sym c.note_for_change.ensures.same) c.settle_turns-settled.ensures.applied

pub returns-clause-why : goal.returns-clause-why
returns-clause-why c = subst (λ (z : State). IfErr c.settle_turns-settled.result (λ e. IsNotSettled c.args.turns (state_of c.args.parts.now) z e)) (sym c.note_for_change.ensures.same) c.settle_turns-settled.ensures.why
