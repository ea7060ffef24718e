use Rattle.std.proofs.Common.{◌≡◌, ◌≤◌, ◌+◌, ◌++◌, length, map, vec_len}
use Rattle.std.specs.Prelude.{vec_capacity}
use Rattle.std.specs.Vec.Iter.{into_iter_items}
use Rattle.poly_crew.proofs.room.take_apart.Given as goal

abbrev pub invariant-loop-worker : goal.invariant-loop-worker
invariant-loop-worker g l = record {
  passes : l.passes.items ++ map (λ w. w.pass) (into_iter_items l.worker-iterator) ≡ map (λ w. w.pass) l.fn.workers.items;
  receipts : l.receipts.items ++ map (λ w. w.receipts) (into_iter_items l.worker-iterator) ≡ map (λ w. w.receipts) l.fn.workers.items;
  room_for_passes : vec_len l.passes + length (into_iter_items l.worker-iterator) ≤ vec_capacity l.passes;
  room_for_receipts : vec_len l.receipts + length (into_iter_items l.worker-iterator) ≤ vec_capacity l.receipts;
}
