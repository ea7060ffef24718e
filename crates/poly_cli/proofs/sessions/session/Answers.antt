use Rattle.std.proofs.Common.{[]}
use Rattle.std.proofs.lemmas.Result.{err_from_is_err_and}
use Rattle.poly_cli.specs.declared.sessions.TheConstants.{LINE_COUNT}
use Rattle.poly_cli.specs.Runs.{limits_from}
use Rattle.poly_cli.specs.Sessions.{session_limits}
use Rattle.poly_cli.proofs.Known.{consumes_none}
use Rattle.poly_cli.proofs.FirstLine.{limits_are, unread_refused, unread_unanswered, with_limits}
use Rattle.poly_cli.proofs.sessions.session.Goals as goal

pub returns-in-Ok-clause-run : goal.returns-in-Ok-clause-run
returns-in-Ok-clause-run g c =
    let l = c.in-Ok.lines in
    with_limits g.E.Engine.failures (g.E.Engine.state c.args.engine.now).failed (limits_from LINE_COUNT l) session_limits c.run.result _ _ _ _
    (limits_are l c.in-Ok.ensures.limits.0 c.in-Ok.ensures.limits.1 c.in-Ok.ensures.fresh) c.run.ensures.run

pub returns-in_ok-write_whole-in-Err-clause-run : goal.returns-in_ok-write_whole-in-Err-clause-run
returns-in_ok-write_whole-in-Err-clause-run g c =
    ([], consumes_none _, unread_refused g.E.Engine.failures (g.E.Engine.state c.args.engine.now).failed session_limits (g.R.Read.remaining c.args.reader.now) _ _ (rw (c.as_bytes.ensures.value, c.refusal_line.ensures) at c.in_ok-write_whole-in-Err.ensures))

pub returns-in_err-write_whole-in-Err-clause-run : goal.returns-in_err-write_whole-in-Err-clause-run
returns-in_err-write_whole-in-Err-clause-run g c =
    let p = err_from_is_err_and c.from_residual.result c.from_residual.ensures.1 in
    rw (p.1, p.2) ([], consumes_none _, unread_unanswered g.E.Engine.failures (g.E.Engine.state c.args.engine.now).failed session_limits _ _ _ c.in_err-write_whole-in-Err.field-0.0 (rw (c.as_bytes.ensures.value, c.refusal_line.ensures) at c.in_err-write_whole-in-Err.ensures))
