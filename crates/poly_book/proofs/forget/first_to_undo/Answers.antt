use Rattle.std.proofs.Common.{arith, length, ◌<◌, ◌≤◌}
use Rattle.poly_design.specs.declared.change.Change.{Change}
use Rattle.poly_undo.specs.declared.step.Step.{Step as Beside}
use Rattle.poly_tasks.specs.declared.shelf.Kept.{Kept}
use Rattle.poly_tasks.specs.Needed.{IsKeptFrom}
use Rattle.poly_book.proofs.Forgetting.{first_more, kept_earlier, step_at}
use Rattle.poly_tasks.proofs.Held.{some_of}
use Rattle.poly_book.proofs.forget.first_to_undo.Goals as goal

pub loop-i-preserved : goal.loop-i-preserved
loop-i-preserved c =
    let all = c.args.history.now.undo in
    let i = c.loop-i.i in
    let old = c.loop-i.edition in
    let new = c.first_kept-edition.result in
    let low : new ≤ old = c.first_kept-edition.ensures.low in
    let within : i < length all = omega (arith, c.loop-i-test.true, c.undo_len-i-end.ensures.value) in
    let d = some_of all i within in
    let here = step_at new all i d _ within c.undo_step.ensures c.first_kept-edition.ensures.step in
    record {
      so_far = first_more (λ (s : Beside Change Kept). IsKeptFrom old s.kept) (λ (s : Beside Change Kept). IsKeptFrom new s.kept) all i d within (λ s h. kept_earlier new old s.kept low h) c.loop-i.invariant.so_far here;
      low = omega (arith, low, c.loop-i.invariant.low);
    }
