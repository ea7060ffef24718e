use Rattle.std.proofs.Common.{get_or, ℕ, ◌<◌, ◌≤◌}
use Rattle.poly_design.specs.declared.change.Change.{Change}
use Rattle.poly_undo.specs.declared.step.Step.{Step as Beside}
use Rattle.poly_tasks.specs.declared.shelf.Kept.{Kept}
use Rattle.poly_tasks.specs.Needed.{IsKeptFrom}
use Rattle.poly_book.proofs.forget.first_to_redo.Given as goal

abbrev pub invariant-loop-i : goal.invariant-loop-i
invariant-loop-i l = record {
  so_far : (k : ℕ) (d : Beside Change Kept) → k < l.i → IsKeptFrom l.edition (get_or l.history.redo k d).kept;
  low : l.edition ≤ l.fn.end;
}
