use Rattle.std.proofs.Common.{length, take, true, ◌^◌, ◌≡◌, ◌≤◌}
use Rattle.std.specs.List.{list_all}
use Rattle.std.specs.Prelude.{nat_lt}
use Rattle.poly_catalogue.proofs.flags.reach_all.Given as goal

abbrev pub invariant-loop-number : goal.invariant-loop-number
invariant-loop-number l = record {
  low : list_all (λ p. nat_lt p (length l.flags.items)) (take l.number-index l.numbers) ≡ true;
  more : length l.initial.flags.items ≤ length l.flags.items;
  few : length l.flags.items ≤ 2 ^ 32;
}
