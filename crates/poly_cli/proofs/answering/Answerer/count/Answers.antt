use Rattle.poly_text.specs.declared.command.Command.TheVariants as command
use Rattle.poly_text.specs.Replies.{refusal_text}
use Rattle.poly_cli.specs.Questions.{CountSays}
use Rattle.poly_cli.proofs.LineReplies.{current_answered, current_refused, question_refused}
use Rattle.poly_cli.proofs.answering.Answerer.count.Goals as goal

pub returns-in-Ok-clause-kept : goal.returns-in-Ok-clause-kept
returns-in-Ok-clause-kept g c = current_answered c.args.self.now.kept (g.E.Engine.state c.args.engine.now) (g.E.Engine.state c.count.new.self) c.in-Ok.ensures.ok c.requires.kept

pub returns-in-Err-clause-kept : goal.returns-in-Err-clause-kept
returns-in-Err-clause-kept g c = current_refused g.E.Engine.failures c.args.self.now.kept (g.E.Engine.state c.args.engine.now) (g.E.Engine.state c.count.new.self) c.in-Err.refusal c.in-Err.ensures.err c.requires.kept

pub returns-in-Err-clause-says : goal.returns-in-Err-clause-says
returns-in-Err-clause-says g c =
    let s = g.E.Engine.state c.args.engine.now in
    let e = c.in-Err.refusal in
    (refusal_text e, question_refused g.E.Engine.failures command.Count CountSays s (g.E.Engine.state c.count.new.self) (λ out h. h) e (λ failure out h. h) c.in-Err.ensures.err, c.refuse.ensures)
