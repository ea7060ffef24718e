-- The next pending task from a number on.
use Rattle.std.specs.Prelude.{List, None, Option, Some, [], cond, nat_le, ℕ, ◌<◌, ◌∷◌, ◌≡◌, ◌≤◌}
use Rattle.poly_tasks.specs.declared.task.Pending.{Pending}
use Rattle.poly_tasks.specs.Tasks.{Task, find_task}

-- the first task number that is at least m, if there is one
abbrev pub number_from : ℕ → List Pending → Option ℕ
number_from m [] = None
number_from m (p ∷ ps) = cond (nat_le m p.number) (Some p.number) (number_from m ps)

-- no pending task has a number of m or more
abbrev pub NoneFrom : ℕ → List Task → Type 0
NoneFrom m ts = (k : ℕ) (t : Task) → find_task k ts ≡ Some t → k < m

-- n is the least number of a pending task that is at least m
pub record IsLeastFrom (m : ℕ) (ts : List Task) (n : ℕ) : Type 0 where
  pub task : Task
  pub found : find_task n ts ≡ Some task
  pub from : m ≤ n
  pub least : (k : ℕ) (t : Task) → m ≤ k → find_task k ts ≡ Some t → n ≤ k
