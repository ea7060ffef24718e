use Rattle.std.specs.Arc.{arc_value}
use Rattle.std.proofs.Common.{List, [], length, ℕ, ◌++◌, ◌+◌, ◌∷◌, ◌≡◌, ◌≤◌}
use Rattle.poly_tiling.specs.Puzzle.{View}
use Rattle.poly_atom.specs.declared.atom.Atom.{Atom}
use Rattle.poly_atom.specs.Stairs.{stairs}
use Rattle.poly_tasks.specs.Judged.{AreJudged}
use Rattle.poly_tasks.specs.Meaning.{IsBase, base_of}
use Rattle.poly_tasks.specs.Opens.{Opening}
use Rattle.poly_tasks.proofs.Held.{crossed_from}
use Rattle.poly_tasks.proofs.fresh.add_crossed.Given as goal

abbrev pub invariant-loop-index : goal.invariant-loop-index
invariant-loop-index l = record {
  same : (w : View) (g : List Atom) (log : List (List Atom)) (next : ℕ) (all rest : List (List Atom)) → length log ≡ l.edition → IsBase log (arc_value l.base) → AreJudged w (base_of log (arc_value l.base)) (stairs g) l.flags →
      Opening (log ++ g ∷ []) next l.start w all (crossed_from (base_of log (arc_value l.base)) g 0 rest) l.fn.tasks.items → Opening (log ++ g ∷ []) next l.number w all (crossed_from (base_of log (arc_value l.base)) g l.index rest) l.tasks.items;
  count : l.start + length l.tasks.items ≡ l.number + length l.fn.tasks.items;
  few : l.number ≤ 4294967296;
}
