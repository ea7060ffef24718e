use Rattle.std.proofs.lemmas.Result.{IfOk-weaker}
use Rattle.poly_desk.proofs.Passes.{taken_view}
use Rattle.poly_desk.proofs.floor.Floor.take.Goals as goal

pub returns-clause-view : goal.returns-clause-view
returns-clause-view g c = IfOk-weaker c.take.result _ _ (λ o h. taken_view g.O.Opening.steps g.O.Opening.view c.self.inside.book c.args.which o c.self.invariant.4 h) c.take.ensures.ok
