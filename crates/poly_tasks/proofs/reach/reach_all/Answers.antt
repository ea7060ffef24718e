use Rattle.std.proofs.Common.{arith}
use Rattle.poly_tasks.proofs.ReachedTasks.{all_more, farther_on}
use Rattle.poly_tasks.proofs.reach.reach_all.Goals as goal

pub loop-i-preserved : goal.loop-i-preserved
loop-i-preserved c =
    let r = c.loop-i.reach.items in
    let r2 = c.raise.new.reach.items in
    record {
      farther = farther_on _ r r2 c.loop-i.invariant.farther c.raise.ensures.farther;
      each = all_more r r2 c.args.tasks.now c.loop-i.i c.index-tasks-i.result c.loop-i-test.true c.index-tasks-i.is c.raise.ensures.farther c.loop-i.invariant.each
          (c.raise.ensures.reached (omega (arith, c.loop-i-test.true, c.loop-i.invariant.farther.len, c.requires)));
    }

pub returns-clause-reached : goal.returns-clause-reached
returns-clause-reached c = λ i d low yes. (i, omega arith, c.loop-i.invariant.each i d (omega (arith, low, c.loop-i-test.false)))
