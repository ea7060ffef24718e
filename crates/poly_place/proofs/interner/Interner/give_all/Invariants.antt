use Rattle.std.proofs.Common.{◌≡◌, ◌≤◌, length, vec_capacity, vec_len}
use Rattle.poly_place.specs.Interned.{AreNumbered}
use Rattle.poly_place.proofs.Numbers.{IsPartWay}
use Rattle.poly_place.proofs.interner.Interner.give_all.Given as goal

abbrev pub invariant-loop-placement : goal.invariant-loop-placement
invariant-loop-placement l = record {
  way : IsPartWay l.fn.self l.placements l.self l.placement-index l.numbers.items;
  numbered : AreNumbered l.self;
  count : vec_len l.numbers ≡ l.placement-index;
  room : length l.placements ≤ vec_capacity l.numbers;
}
