use Rattle.poly_text.specs.declared.command.Command.TheVariants as command
use Rattle.poly_text.specs.Replies.{step_text}
use Rattle.poly_cli.specs.States.{EditRefused, Edits, RedoRefused, Redoes, UndoRefused, Undoes}
use Rattle.poly_cli.proofs.LineReplies.{step_says}
use Rattle.poly_cli.proofs.answering.Answerer.answer.Goals as goal

pub returns-in-Edit-clause-says : goal.returns-in-Edit-clause-says
returns-in-Edit-clause-says g c =
    let s = g.E.Engine.state c.args.engine.now in
    let r = c.edit-stepped in
    (step_text r.result, rw c.in-Edit.is (step_says g.E.Engine.failures (command.Edit c.in-Edit.edit) (Edits s c.in-Edit.edit) (EditRefused s c.in-Edit.edit) s (g.E.Engine.state r.new.self) r.result (λ out h. h) (λ failure out h. h) r.ensures.ok r.ensures.next r.ensures.err r.ensures.why), c.step.ensures.says)

pub returns-in-Undo-clause-says : goal.returns-in-Undo-clause-says
returns-in-Undo-clause-says g c =
    let s = g.E.Engine.state c.args.engine.now in
    let r = c.undo-stepped in
    (step_text r.result, rw c.in-Undo.is (step_says g.E.Engine.failures command.Undo (Undoes s) (UndoRefused s) s (g.E.Engine.state r.new.self) r.result (λ out h. h) (λ failure out h. h) r.ensures.ok r.ensures.next r.ensures.err r.ensures.why), c.step-in-Undo.ensures.says)

pub returns-in-Redo-clause-says : goal.returns-in-Redo-clause-says
returns-in-Redo-clause-says g c =
    let s = g.E.Engine.state c.args.engine.now in
    let r = c.redo-stepped in
    (step_text r.result, rw c.in-Redo.is (step_says g.E.Engine.failures command.Redo (Redoes s) (RedoRefused s) s (g.E.Engine.state r.new.self) r.result (λ out h. h) (λ failure out h. h) r.ensures.ok r.ensures.next r.ensures.err r.ensures.why), c.step-in-Redo.ensures.says)
