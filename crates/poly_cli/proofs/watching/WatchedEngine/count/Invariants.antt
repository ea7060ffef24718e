use Rattle.poly_cli.proofs.Resumed.{IsResumed}
use Rattle.poly_cli.proofs.watching.WatchedEngine.count.Given as goal

abbrev pub invariant-loop-pace : goal.invariant-loop-pace
invariant-loop-pace g l = record {
  ready : g.E.Engine.ready l.self.engine;
  so_far : IsResumed g.E.Engine.failures (g.E.Engine.state l.fn.self.engine) (g.E.Engine.state l.self.engine);
}

abbrev pub decreases-loop-pace : goal.decreases-loop-pace
decreases-loop-pace g l = l.pace.left
