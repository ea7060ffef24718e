use Rattle.std.proofs.Common.{map}
use Rattle.poly_tiling.specs.TilingOrder.{placed}
use Rattle.poly_text.specs.Replies.{refusal_text}
use Rattle.poly_cli.specs.Questions.{SurveySays, command_of}
use Rattle.poly_cli.proofs.LineReplies.{answered_or_memory, current_new, current_none, question_refused, survey_answers, survey_fails}
use Rattle.poly_cli.proofs.answering.Answerer.survey.Goals as goal

pub returns-in-Ok-clause-says : goal.returns-in-Ok-clause-says
returns-in-Ok-clause-says g c =
    let q = c.in-Ok.quiet in
    let a = c.args.survey in
    let s = g.E.Engine.state c.args.engine.now in
    let t = g.E.Engine.state c.all_tilings.new.engine in
    let all = map (placed q.view) q.tilings in
    let said = c.say-written.ensures.says in
    (said.0, answered_or_memory g.E.Engine.failures (command_of a) (SurveySays a) s t (survey_answers g.E.Engine.failures a s t) q.design all said.0 c.in-Ok.ensures.ok c.in-Ok.ensures.design c.say-written.ensures.all said.1, said.2)

pub returns-in-Ok-clause-kept : goal.returns-in-Ok-clause-kept
returns-in-Ok-clause-kept g c = current_new c.in-Ok.quiet (g.E.Engine.state c.args.engine.now) (g.E.Engine.state c.all_tilings.new.engine) c.in-Ok.ensures.ok c.in-Ok.ensures.design

pub returns-in-Err-clause-kept : goal.returns-in-Err-clause-kept
returns-in-Err-clause-kept g c = current_none c.all_tilings.new.self.kept (g.E.Engine.state c.all_tilings.new.engine) c.all_tilings.ensures.none

pub returns-in-Err-clause-says : goal.returns-in-Err-clause-says
returns-in-Err-clause-says g c =
    let a = c.args.survey in
    let s = g.E.Engine.state c.args.engine.now in
    let t = g.E.Engine.state c.all_tilings.new.engine in
    let e = c.in-Err.refusal in
    (refusal_text e, question_refused g.E.Engine.failures (command_of a) (SurveySays a) s t (survey_answers g.E.Engine.failures a s t) e (survey_fails a s t) c.in-Err.ensures.err, c.refuse.ensures)
