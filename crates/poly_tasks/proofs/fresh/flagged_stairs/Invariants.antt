use Rattle.std.proofs.Common.{List, [], length, ◌++◌, ◌+◌, ◌∷◌, ◌≡◌, ◌≤◌}
use Rattle.poly_tiling.specs.Puzzle.{View}
use Rattle.poly_atom.specs.declared.atom.Atom.{Atom}
use Rattle.poly_atom.specs.Stairs.{stairs}
use Rattle.poly_tasks.specs.Judged.{AreJudged}
use Rattle.poly_tasks.specs.Opens.{Opening}
use Rattle.poly_tasks.proofs.Held.{stairs_from}
use Rattle.poly_tasks.proofs.fresh.flagged_stairs.Given as goal

abbrev pub invariant-loop-index : goal.invariant-loop-index
invariant-loop-index l = record {
  same : (w : View) (g : List Atom) (log : List (List Atom)) → length log ≡ l.edition → AreJudged w [] (stairs g) l.flags →
      Opening (log ++ g ∷ []) l.fn.next l.number w (stairs g) (stairs_from g l.index) l.tasks.items;
  number : l.fn.next + length l.tasks.items ≡ l.number;
  few : l.number ≤ 4294967296;
}
