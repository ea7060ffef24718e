-- A report that was applied.
use Rattle.std.specs.List.{position_from}
use Rattle.std.specs.Prelude.{List, Some, length, nat_lt, true, false, ℕ, ◌&&◌, ◌+◌, ◌==◌, ◌≡◌, ◌≤◌}
use Rattle.poly_atom.specs.declared.atom.Atom.{Atom}
use Rattle.poly_report.specs.Gather.{IsCutUp}
use Rattle.poly_report.specs.Trees.{Plan}
use Rattle.poly_report.specs.Sizes.{all_fewer, fits, inner, is_rest}
use Rattle.poly_report.specs.Holds.{holds}
use Rattle.poly_report.specs.Leaves.{rests, tilings}
use Rattle.poly_book.specs.declared.step.Applied.{Applied}
use Rattle.poly_book.specs.declared.parts.Parts.{Parts}
use Rattle.poly_book.specs.Events.{Report, step}
use Rattle.poly_book.specs.Keeps.{state_of}
use Rattle.poly_book.specs.Partition.{Becomes}
use Rattle.poly_book.specs.States.{State}
use Rattle.poly_tasks.specs.Tasks.{Task, atoms_of, find_task}

-- The task is pending, the tree fits and holds, and `t` is the state after the event of the report. The answer has the number
-- of endings after the report, how many tilings the report listed and how many tasks it opened, the number of the first of
-- these tasks, and whether the report was made at an earlier edition.
pub record IsApplied (k made : ℕ) (tree : Plan) (s t : State) (a : Applied) : Type 0 where
  pub task : Task
  pub found : find_task k s.pending ≡ Some task
  pub right : (fits tree && holds s.view (atoms_of task) tree) ≡ true
  pub becomes : Becomes (step s (Report k tree)) t
  pub place : a.place ≡ length t.endings
  pub listed : a.listed ≡ length (tilings s.view (atoms_of task) tree)
  pub first : a.first ≡ s.next
  pub opened : t.next ≡ a.first + a.opened
  pub late : a.late ≡ nat_lt made (length s.steps)

-- The tilings and the lists are the leaves of a tree. It fits, and it holds for the pending task with the number k, whose
-- index among the pending tasks is `index`.
pub record AreLeaves (p : Parts) (k index : ℕ) (tree : Plan) (found : List (List ℕ)) (left : List (List Atom)) : Type 0 where
  pub task : Task
  pub first : position_from (λ q. q.number == k) 0 p.tasks.items ≡ Some index
  pub there : find_task k (state_of p).pending ≡ Some task
  pub small : fits tree ≡ true
  pub cut : IsCutUp (state_of p).view (atoms_of task) tree found left

-- Besides, the tree has at most `nodes` nodes that aren't Rest, its root isn't Rest, and each of its rests has fewer open
-- placements than the task's atoms.
pub record AreFoundLeaves (nodes : ℕ) (p : Parts) (k index : ℕ) (tree : Plan) (found : List (List ℕ)) (left : List (List Atom)) : Type 0 where
  pub leaves : AreLeaves p k index tree found left
  pub few : inner tree ≤ nodes
  pub root : is_rest tree ≡ false
  pub smaller : all_fewer (state_of p).view (atoms_of leaves.task) (rests (state_of p).view (atoms_of leaves.task) tree) ≡ true
