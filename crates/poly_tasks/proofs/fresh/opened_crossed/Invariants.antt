use Rattle.std.proofs.Common.{[], drop, length, map, ◌++◌, ◌+◌, ◌∷◌, ◌≡◌, ◌≤◌}
use Rattle.poly_atom.specs.Stairs.{stairs}
use Rattle.poly_tasks.specs.Meaning.{frozen_of}
use Rattle.poly_tasks.specs.Opens.{AreReady, Opening}
use Rattle.poly_tasks.specs.Shelves.{crossed}
use Rattle.poly_tasks.proofs.fresh.opened_crossed.Given as goal

abbrev pub invariant-loop-task : goal.invariant-loop-task
invariant-loop-task l = record {
  same : Opening (l.log ++ l.guards ∷ []) l.next l.number l.view (crossed (map (λ f. frozen_of l.log f) l.frozen) (stairs l.guards)) (crossed (drop l.task-index (map (λ f. frozen_of l.log f) l.frozen)) (stairs l.guards)) l.tasks.items;
  number : l.next + length l.tasks.items ≡ l.number;
  few : l.number ≤ 4294967296;
  ready : AreReady l.view l.log l.guards l.buffers;
}
