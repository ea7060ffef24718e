use Rattle.std.proofs.Common.{arith, subst, ◌≤◌}
use Rattle.poly_tasks.specs.declared.task.Pending.{Pending}
use Rattle.poly_tasks.specs.Needed.{IsTaskFrom}
use Rattle.poly_book.proofs.Forgetting.{first_more, task_earlier}
use Rattle.poly_book.proofs.forget.first_pending.Goals as goal

pub loop-task-preserved : goal.loop-task-preserved
loop-task-preserved c =
    let all = c.args.tasks.now in
    let i = c.loop-task.task-index in
    let old = c.loop-task.edition in
    let new = c.first_of-edition.result in
    let low : new ≤ old = c.first_of-edition.ensures.low in
    let here = subst (λ (p : Pending). IsTaskFrom new p.own p.made) c.task-item.is c.first_of-edition.ensures.task in
    record {
      so_far = first_more (λ (p : Pending). IsTaskFrom old p.own p.made) (λ (p : Pending). IsTaskFrom new p.own p.made) all i c.task-item.result c.loop-task-test.true (λ p h. task_earlier new old p.own p.made low h) c.loop-task.invariant.so_far here;
      low = omega (arith, low, c.loop-task.invariant.low);
    }
