use Rattle.std.proofs.Common.{take}
use Rattle.poly_tasks.specs.Mapped.{AreRunsNoted, IsWider}
use Rattle.poly_tasks.proofs.maps.Maps.note_runs.Given as goal

abbrev pub invariant-loop-run : goal.invariant-loop-run
invariant-loop-run l = record {
  wider : IsWider l.fn.self l.self;
  noted : AreRunsNoted l.self l.last (take l.run-index l.runs);
}
