use Rattle.std.proofs.Common.{◌≡◌, ◌≤◌, ◌*◌, sum_by, take, vec_len}
use Rattle.poly_crew.specs.declared.crewing.TheConstants.{MOST_TURNS}
use Rattle.poly_crew.proofs.room.applied_by.Given as goal

abbrev pub invariant-loop-worker : goal.invariant-loop-worker
invariant-loop-worker g l = record {
  sum : l.applied ≡ sum_by (λ w. vec_len w.receipts) (take l.worker-index l.workers);
  small : l.applied ≤ l.worker-index * MOST_TURNS;
}
