use Rattle.std.proofs.Common.{arith, subst, ◌≤◌}
use Rattle.poly_tasks.specs.declared.shelf.Frozen.{Frozen}
use Rattle.poly_tasks.specs.Needed.{IsFrozenFrom}
use Rattle.poly_book.proofs.Forgetting.{first_more, frozen_earlier}
use Rattle.poly_book.proofs.forget.first_frozen.Goals as goal

pub loop-task-preserved : goal.loop-task-preserved
loop-task-preserved c =
    let all = c.args.frozen.now in
    let i = c.loop-task.task-index in
    let old = c.loop-task.edition in
    let new = c.first_of_frozen-edition.result in
    let low : new ≤ old = c.first_of_frozen-edition.ensures.low in
    let here = subst (λ (f : Frozen). IsFrozenFrom new f) c.task-item.is c.first_of_frozen-edition.ensures.frozen in
    record {
      so_far = first_more (λ (f : Frozen). IsFrozenFrom old f) (λ (f : Frozen). IsFrozenFrom new f) all i c.task-item.result c.loop-task-test.true (λ f h. frozen_earlier new old f low h) c.loop-task.invariant.so_far here;
      low = omega (arith, low, c.loop-task.invariant.low);
    }
