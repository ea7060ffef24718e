use Rattle.std.proofs.lemmas.Result.{IfOk-weaker}
use Rattle.poly_report.specs.Shapes.{plan_of}
use Rattle.poly_book.proofs.Running.{still_holds_lem}
use Rattle.poly_book.proofs.laws.still_holds.Goals as goal

pub returns-clause-holds : goal.returns-clause-holds
returns-clause-holds c = IfOk-weaker c.run.result _ _ (λ r a. still_holds_lem c.args.book r.book c.args.events.items r.replies.items c.args.report.now.task (plan_of c.args.report.now.tree) c.whole.ensures.whole c.requires a) c.run.ensures.happen
