use Rattle.std.proofs.Common.{◌≡◌, drop, map}
use Rattle.poly_crew.specs.Worked.{first_of}
use Rattle.poly_crew.proofs.room.first_refusal.Given as goal

abbrev pub invariant-loop-worker : goal.invariant-loop-worker
invariant-loop-worker g l = first_of (map (λ w. w.end) l.workers) ≡ first_of (map (λ w. w.end) (drop l.worker-index l.workers))
