use Rattle.std.proofs.Common.{length, vec_len, ◌+◌, ◌-◌, ◌^◌, ◌≤◌}
use Rattle.poly_catalogue.proofs.flags.reach.Given as goal

abbrev pub invariant-loop-flags : goal.invariant-loop-flags
invariant-loop-flags l = record { more : length l.initial.flags.items ≤ length l.flags.items; few : length l.flags.items ≤ 2 ^ 32 }

abbrev pub decreases-loop-flags : goal.decreases-loop-flags
decreases-loop-flags l = l.number + 1 - vec_len l.flags
