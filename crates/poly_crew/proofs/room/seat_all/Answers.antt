use Rattle.std.proofs.Common.{append_assoc, arith}
use Rattle.std.proofs.lemmas.Grind.{common_steps}
use Rattle.std.proofs.lemmas.List.{map-append}
use Rattle.poly_crew.proofs.Workers.{none_more}
use Rattle.poly_crew.proofs.room.seat_all.Goals as goal

pub loop-pass-preserved : goal.loop-pass-preserved
loop-pass-preserved g c = record {
  same = rw (c.push_reserved.ensures.items, map-append, append_assoc) (grind (arith, common_steps));
  hints = grind (arith, common_steps);
  room = grind (arith, common_steps);
  none = none_more _ _ _ c.push_reserved.ensures.items c.new.ensures.len c.loop-pass.invariant.none;
}
