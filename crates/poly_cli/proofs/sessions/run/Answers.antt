use Rattle.std.proofs.Common.{Ok, Err}
use Rattle.std.proofs.lemmas.Result.{err_from_is_err_and}
use Rattle.poly_cli.proofs.FirstLine.{line_refused, line_unanswered, then_served, end_refused, end_done, end_unanswered, fault_opened}
use Rattle.poly_cli.proofs.sessions.run.Goals as goal

pub returns-in_err-answer_opening-in-Line-clause-run : goal.returns-in_err-answer_opening-in-Line-clause-run
returns-in_err-answer_opening-in-Line-clause-run g c =
    let p = err_from_is_err_and c.from_residual.result c.from_residual.ensures.1 in
    let n = c.in-Line.ensures in
    rw (p.1, p.2) (line_unanswered g.E.Engine.failures (g.E.Engine.state c.args.engine.now).failed _ _ _ _ _ c.requires.fresh _ c.requires.some n.next n.limit _ c.ended.ensures c.open-opened.result (g.E.Engine.state c.open-opened.new.engine) _ _ c.open-opened.ensures.opens c.in_err-answer_opening-in-Line.ensures)

pub returns-in_err-answer_opening-in-End-clause-run : goal.returns-in_err-answer_opening-in-End-clause-run
returns-in_err-answer_opening-in-End-clause-run g c =
    let p = err_from_is_err_and c.from_residual-in_err-answer_opening-in-End.result c.from_residual-in_err-answer_opening-in-End.ensures.1 in
    let n = c.in-End.ensures in
    rw (p.1, p.2) (end_unanswered g.E.Engine.failures (g.E.Engine.state c.args.engine.now).failed _ _ _ _ _ c.requires.fresh _ c.requires.some n.next n.limit _ c.unended.ensures c.open-opened-in-End.result (g.E.Engine.state c.open-opened-in-End.new.engine) _ _ c.open-opened-in-End.ensures.opens c.in_err-answer_opening-in-End.ensures)

pub returns-in_ok-serve-in-Ok-clause-run : goal.returns-in_ok-serve-in-Ok-clause-run
returns-in_ok-serve-in-Ok-clause-run g c =
    let n = c.in-Line.ensures in
    then_served g.E.Engine.failures (g.E.Engine.state c.args.engine.now).failed _ _ _ _ _ c.requires.fresh _ c.requires.some n.next n.limit _ c.ended.ensures (g.E.Engine.state c.open-opened.new.engine) _ _ _ (Ok tt) c.in-Ok.ensures.opens.0 (rw c.in-Ok.is at c.in_ok-answer_opening-in-Line.ensures) c.in_ok-serve-in-Ok.ensures.run

pub returns-in_err-serve-in-Ok-clause-run : goal.returns-in_err-serve-in-Ok-clause-run
returns-in_err-serve-in-Ok-clause-run g c =
    let p = err_from_is_err_and c.from_residual-in_err-serve-in-Ok.result c.from_residual-in_err-serve-in-Ok.ensures.1 in
    let n = c.in-Line.ensures in
    rw (p.1, p.2) (then_served g.E.Engine.failures (g.E.Engine.state c.args.engine.now).failed _ _ _ _ _ c.requires.fresh _ c.requires.some n.next n.limit _ c.ended.ensures (g.E.Engine.state c.open-opened.new.engine) _ _ _ (Err c.in_err-serve-in-Ok.field-0.0) c.in-Ok.ensures.opens.0 (rw c.in-Ok.is at c.in_ok-answer_opening-in-Line.ensures) c.in_err-serve-in-Ok.ensures.run)

pub returns-in-Err-clause-run : goal.returns-in-Err-clause-run
returns-in-Err-clause-run g c =
    let n = c.in-Line.ensures in
    line_refused g.E.Engine.failures (g.E.Engine.state c.args.engine.now).failed _ _ _ _ _ c.requires.fresh _ c.requires.some n.next n.limit _ c.ended.ensures c.in-Err.field-0 _ c.in-Err.ensures.opens (rw c.in-Err.is at c.in_ok-answer_opening-in-Line.ensures)

pub returns-in-Err-opened-clause-run : goal.returns-in-Err-opened-clause-run
returns-in-Err-opened-clause-run g c =
    let n = c.in-End.ensures in
    end_refused g.E.Engine.failures (g.E.Engine.state c.args.engine.now).failed _ _ _ _ _ c.requires.fresh _ c.requires.some n.next n.limit _ c.unended.ensures c.in-Err-opened.field-0 _ c.in-Err-opened.ensures.opens (rw c.in-Err-opened.is at c.in_ok-answer_opening-in-End.ensures)

pub returns-in-Fault-clause-run : goal.returns-in-Fault-clause-run
returns-in-Fault-clause-run g c = fault_opened g.E.Engine.failures (g.E.Engine.state c.args.engine.now).failed _ _ _ _ _ c.requires.fresh _ c.requires.some c.in-Fault.ensures.next

pub returns-in-Ok-opened-clause-run : goal.returns-in-Ok-opened-clause-run
returns-in-Ok-opened-clause-run g c =
    let n = c.in-End.ensures in
    end_done g.E.Engine.failures (g.E.Engine.state c.args.engine.now).failed _ _ _ _ _ c.requires.fresh _ c.requires.some n.next n.limit _ c.unended.ensures (g.E.Engine.state c.open-opened-in-End.new.engine) _ c.in-Ok-opened.ensures.opens.0 (rw c.in-Ok-opened.is at c.in_ok-answer_opening-in-End.ensures)
