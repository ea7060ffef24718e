use Rattle.std.proofs.Common.{arith, ◌∙◌}
use Rattle.poly_frame.proofs.Listed.{listed_none}
use Rattle.poly_frame.proofs.frame.matrix.list_set.Goals as goal

pub loop-k-init : goal.loop-k-init
loop-k-init c = record {
  listed = listed_none c.args.given.now c.args.given_homes.now c.args.row.now c.reserve.new.self.items c.reserve-2.new.self.items (c.reserve.ensures.items ∙ c.clear.ensures.items) (c.reserve-2.ensures.items ∙ c.clear-2.ensures.items);
  space = omega (arith, c.in_ok-reserve.ensures.ok);
  room = omega (arith, c.in_ok-reserve-2.ensures.ok);
}
