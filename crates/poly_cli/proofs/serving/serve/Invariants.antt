use Rattle.std.proofs.Common.{◌≡◌}
use Rattle.poly_cli.specs.Buffered.{IsReady}
use Rattle.poly_cli.specs.Slow.{Slow}
use Rattle.poly_cli.specs.Current.{IsCurrent}
use Rattle.poly_cli.proofs.Answered.{Answered}
use Rattle.poly_cli.proofs.serving.serve.Given as goal

abbrev pub invariant-loop-answered : goal.invariant-loop-answered
invariant-loop-answered g l = record {
  buffer : IsReady l.lines;
  ready : g.E.Engine.ready l.engine;
  kept : IsCurrent l.answerer.kept (g.E.Engine.state l.engine);
  grid : l.grid ≡ (g.E.Engine.state l.engine).design.grid;
  so_far : Answered (Slow g.E.Engine.failures) l.fn.lines l.lines (g.E.Engine.state l.fn.engine) (g.E.Engine.state l.engine) (g.R.Read.remaining l.fn.reader) (g.R.Read.remaining l.reader) (g.W.Write.contents l.fn.writer) (g.W.Write.contents l.writer) l.answered;
}
