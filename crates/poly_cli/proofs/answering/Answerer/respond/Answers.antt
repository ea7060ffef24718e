use Rattle.std.proofs.Common.{subst, Ok}
use Rattle.poly_text.specs.Commands.{Asks}
use Rattle.poly_cli.proofs.LineReplies.{command_says}
use Rattle.poly_cli.proofs.answering.Answerer.respond.Goals as goal

pub returns-in-Ok-Some-clause-says : goal.returns-in-Ok-Some-clause-says
returns-in-Ok-Some-clause-says g c =
    let s = g.E.Engine.state c.args.engine.now in
    let t = g.E.Engine.state c.answer.new.engine in
    let line = c.in-Some.text.now in
    let a = c.answer.ensures.says in
    let asked = subst (λ o. Asks c.args.grid line (Ok o)) c.in-Ok-Some.field-0-is c.in-Ok-Some.ensures.says in
    (a.0, rw c.in-Some.is (command_says g.E.Engine.failures s c.args.grid c.requires.grid line c.in-Ok-Some.command a.0 t asked a.1), a.2)
