use Rattle.std.proofs.Common.{drop, length, vec_len, ◌+◌, ◌≡◌, ◌≤◌}
use Rattle.std.specs.Vec.{vec_capacity}
use Rattle.poly_tiling.specs.Lists.{put_all}
use Rattle.poly_atom.specs.Hopeless.{asked}
use Rattle.poly_frame.proofs.plain.put_asked.Given as goal

abbrev pub decreases-loop-k : goal.decreases-loop-k
decreases-loop-k l = l.k

abbrev pub invariant-loop-k : goal.invariant-loop-k
invariant-loop-k l = record {
  within : l.k ≤ length l.atoms;
  items : l.onto.items ≡ put_all (asked (drop l.k l.atoms)) l.fn.onto.items;
  few : vec_len l.onto + l.k ≤ vec_len l.fn.onto + length l.atoms;
  room : vec_capacity l.fn.onto ≤ vec_capacity l.onto;
}
