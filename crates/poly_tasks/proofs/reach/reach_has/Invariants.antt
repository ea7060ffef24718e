use Rattle.std.proofs.Common.{take, true, ℕ, ◌≡◌}
use Rattle.poly_atom.specs.declared.atom.Atom.TheVariants.{Has}
use Rattle.poly_tasks.specs.Mapped.{placed}
use Rattle.poly_tasks.specs.Reaching.{IsFarther, IsReached}
use Rattle.poly_tasks.specs.Touching.{touches}
use Rattle.poly_tasks.proofs.reach.reach_has.Given as goal

abbrev pub invariant-loop-row : goal.invariant-loop-row
invariant-loop-row l = record {
  farther : IsFarther l.fn.reach.items l.reach.items;
  reached : (q : ℕ) → touches l.touch (Has q) ≡ true → IsReached l.reach.items l.tasks (λ n. placed (take l.row-index l.rows) q n);
}
