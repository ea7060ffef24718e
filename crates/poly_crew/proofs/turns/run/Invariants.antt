use Rattle.std.specs.Prelude.{IfSome}
use Rattle.poly_crew.specs.Worked.{IsWorked}
use Rattle.poly_crew.proofs.turns.run.Given as goal

abbrev pub invariant-loop-turn : goal.invariant-loop-turn
invariant-loop-turn g l = record {
  worked : IsWorked g.B.Bench.changes g.B.Bench.cuts g.B.Bench.gave l.turn l.fn.worker l.worker;
  last : IfSome l.last (λ s. g.B.Bench.is_view_at s.edition s.view);
}
