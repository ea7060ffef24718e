use Rattle.std.proofs.Common.{◌≡◌, ◌≤◌, ◌+◌, ◌++◌, All, length, map, vec_len}
use Rattle.std.specs.Prelude.{vec_capacity}
use Rattle.std.specs.Vec.Iter.{into_iter_items}
use Rattle.poly_crew.proofs.room.seat_all.Given as goal

abbrev pub invariant-loop-pass : goal.invariant-loop-pass
invariant-loop-pass g l = record {
  same : map (λ w. w.pass) l.workers.items ++ into_iter_items l.pass-iterator ≡ l.fn.passes.items;
  hints : length l.hints.items ≡ length (into_iter_items l.pass-iterator);
  room : vec_len l.workers + length (into_iter_items l.pass-iterator) ≤ vec_capacity l.workers;
  none : All (λ w. vec_len w.receipts ≡ 0) l.workers.items;
}
