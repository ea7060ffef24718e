use Rattle.std.proofs.Common.{ap, ◌∙◌}
use Rattle.std.proofs.lemmas.List.{take_all}
use Rattle.poly_tasks.specs.Meaning.{tasks_of}
use Rattle.poly_book.specs.Events.{hopeless_endings}
use Rattle.poly_book.proofs.Ended.{endings_more, endings_same}
use Rattle.poly_tasks.proofs.Held.{some_of}
use Rattle.poly_book.proofs.next_tasks.endings_of.Goals as goal

pub loop-i-preserved-then-flags-i : goal.loop-i-preserved-then-flags-i
loop-i-preserved-then-flags-i c = λ log w is. endings_same w log c.args.edition c.args.tasks.now c.args.flags.now c.loop-i.i (some_of c.args.tasks.now c.loop-i.i c.loop-i-test.true) _ c.loop-i.all.items is c.loop-i-test.true c.if-flags-i.true (c.loop-i.invariant log w is)

pub loop-i-preserved : goal.loop-i-preserved
loop-i-preserved c = λ log w is. c.in_ok-push.ensures.items ∙ endings_more w log c.args.edition c.args.tasks.now c.args.flags.now c.loop-i.i c.index-tasks-i.result _ c.loop-i.all.items is c.loop-i-test.true c.if-flags-i.false (c.loop-i.invariant log w is)

pub returns : goal.returns
returns c =
    record {
      ok = λ log w is. c.loop-i.invariant log w is ∙ ap (λ ps. hopeless_endings w c.args.edition (tasks_of log ps)) (take_all c.loop-i.i c.args.tasks.now c.loop-i-test.false);
      why = tt;
    }
