use Rattle.std.proofs.Common.{◌<◌, ◌^◌, ◌≡◌}
use Rattle.poly_tiling.proofs.leading.digit_count.Given as goal

abbrev pub invariant-loop-count : goal.invariant-loop-count
invariant-loop-count l = record {
  is : l.power ≡ l.base ^ l.count;
  fits : l.base ^ l.count < 2 ^ 64;
}
