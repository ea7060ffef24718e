use Rattle.std.proofs.Common.{get_or, ℕ, ◌<◌, ◌≤◌}
use Rattle.poly_tasks.specs.declared.task.Pending.{Pending}
use Rattle.poly_tasks.specs.Reaching.{IsFarther}
use Rattle.poly_tasks.proofs.reach.reach_all.Given as goal

abbrev pub invariant-loop-i : goal.invariant-loop-i
invariant-loop-i l = record {
  farther : IsFarther l.fn.reach.items l.reach.items;
  each : (j : ℕ) (d : Pending) → j < l.i → (get_or l.tasks j d).number ≤ get_or l.reach.items j 0;
}
