use Rattle.std.proofs.Common.{take}
use Rattle.poly_tasks.specs.Mapped.{IsNotedBase, IsPrefix, IsWider, WillBeNoted}
use Rattle.poly_tasks.proofs.maps.Maps.note_all.Given as goal

abbrev pub invariant-loop-i : goal.invariant-loop-i
invariant-loop-i l = record {
  wider : IsWider l.fn.self l.self;
  prefix : IsPrefix l.self l.log l.prefix;
  noted : WillBeNoted l.self l.runs l.log (take l.i l.tasks);
  base : IsNotedBase l.self l.base;
}
