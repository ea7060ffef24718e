use Rattle.std.proofs.Common.{ap, map, subst, sym, ◌∙◌}
use Rattle.std.proofs.lemmas.List.{take_all}
use Rattle.poly_tasks.specs.Meaning.{AreFrozen, IsTask, frozen_of, own_of, task_of, tasks_of}
use Rattle.poly_tasks.specs.Tasks.{Spares, atoms_of}
use Rattle.poly_tasks.proofs.Held.{task_at}
use Rattle.poly_tasks.proofs.Holding.{frozen_more, frozen_push_one}
use Rattle.poly_tasks.proofs.Sparing.{sparing_at}
use Rattle.poly_book.proofs.prepare.frozen_tasks.Goals as goal

pub freeze-requires-clause-task : goal.freeze-requires-clause-task
freeze-requires-clause-task c = subst (λ p. IsTask c.args.log.now p) (sym c.task-item.is) (task_at c.args.log.now c.args.tasks.now c.loop-task.task-index c.task-item.result c.requires.tasks c.loop-task-test.true)

pub freeze-requires-clause-spares : goal.freeze-requires-clause-spares
freeze-requires-clause-spares c =
    let log = c.args.log.now in
    subst (λ p. Spares (own_of log p.own) (atoms_of (task_of log p))) (sym c.task-item.is) (sparing_at log c.args.tasks.now c.loop-task.task-index c.task-item.result c.requires.sparing c.loop-task-test.true)

pub loop-task-preserved : goal.loop-task-preserved
loop-task-preserved c =
    let log = c.args.log.now in
    let ps = c.args.tasks.now in
    let x = c.in_ok-frozen.frozen in
    record {
      atoms = ap (λ fs. map (λ f. frozen_of log f) fs) c.in_ok-push.ensures.items ∙ frozen_more log ps c.loop-task.task-index c.task-item.result c.loop-task.all.items x c.loop-task-test.true c.task-item.is c.loop-task.invariant.atoms c.in_ok-frozen.ensures.atoms;
      frozen = subst (λ fs. AreFrozen log fs) (sym c.in_ok-push.ensures.items) (frozen_push_one log c.loop-task.all.items x c.loop-task.invariant.frozen c.in_ok-frozen.ensures.frozen);
    }

pub returns : goal.returns
returns c =
    record {
      ok = c.loop-task.invariant.atoms ∙ ap (λ ps. map (λ t. atoms_of t) (tasks_of c.args.log.now ps)) (take_all c.loop-task.task-index c.args.tasks.now c.loop-task-test.false);
      frozen = c.loop-task.invariant.frozen;
      why = tt;
    }
