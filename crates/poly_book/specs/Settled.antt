-- What settling leaves.
use Rattle.std.specs.List.{list_all}
use Rattle.std.specs.Prelude.{Bool, List, Some, [], drop, false, length, map, not, suc, true, zero, ℕ, ◌&&◌, ◌++◌, ◌<◌, ◌≡◌, ◌≤◌, ◌⊎◌}
use Rattle.poly_grid.specs.declared.refusal.Refusal.{Refusal}
use Rattle.poly_grid.specs.declared.refusal.Refusal.TheVariants.{Memory, Unfinished}
use Rattle.poly_atom.specs.Hopeless.{hopeless}
use Rattle.poly_report.specs.Holds.{holds}
use Rattle.poly_report.specs.Leaves.{rests}
use Rattle.poly_report.specs.Sizes.{all_fewer, fits, inner, is_rest}
use Rattle.poly_report.specs.Trees.{Plan}
use Rattle.poly_book.specs.declared.step.Ending.TheVariants.{Cut}
use Rattle.poly_book.specs.Events.{Report, step}
use Rattle.poly_book.specs.Happenings.{HoldsNow}
use Rattle.poly_book.specs.Partition.{Becomes}
use Rattle.poly_book.specs.Refused.{IsOver}
use Rattle.poly_book.specs.States.{State}
use Rattle.poly_tasks.specs.Tasks.{Task, atoms_of, find_task}

-- n tasks were cut, and no task ended otherwise; the opening design, the design, its view and the steps are the same
pub record Cuts (s t : State) (n : ℕ) : Type 0 where
  pub opened : t.opened ≡ s.opened
  pub design : t.design ≡ s.design
  pub view : t.view ≡ s.view
  pub steps : t.steps ≡ s.steps
  pub tasks : List ℕ
  pub endings : t.endings ≡ s.endings ++ map (λ k. Cut k) tasks
  pub count : length tasks ≡ n

-- A report on a pending task leads from one state to the next. Its tree fits and holds for the task; it has at most `nodes` nodes
-- that aren't Rest, and its root isn't Rest; and each of its rests has fewer open placements than the task's atoms.
pub record IsReported (nodes : ℕ) (s t : State) : Type 0 where
  pub number : ℕ
  pub task : Task
  pub tree : Plan
  pub pending : find_task number s.pending ≡ Some task
  pub right : (fits tree && holds s.view (atoms_of task) tree) ≡ true
  pub few : inner tree ≤ nodes
  pub root : is_rest tree ≡ false
  pub smaller : all_fewer s.view (atoms_of task) (rests s.view (atoms_of task) tree) ≡ true
  pub becomes : Becomes (step s (Report number tree)) t

-- n such reports, one after the other, lead from the first state to the last
abbrev pub AreReported : ℕ → ℕ → State → State → Type 0
AreReported nodes zero s t = t ≡ s
AreReported nodes (suc n) s t = (u : State) × AreReported nodes n s u × IsReported nodes u t

-- such reports lead from the first state to the last: at most `turns`, and exactly `turns` if the refusal is `Unfinished`
abbrev pub AreReportedBefore : Refusal → ℕ → ℕ → State → State → Type 0
AreReportedBefore e turns nodes s t = (n : ℕ) × (n ≤ turns) × (e ≡ Unfinished → n ≡ turns) × AreReported nodes n s t

-- one turn of settling: true if it cut a task, false if nothing is pending and nothing has changed
abbrev pub IsTurn : ℕ → State → State → Bool → Type 0
IsTurn nodes s t true = Cuts s t 1 × IsReported nodes s t
IsTurn nodes s t false = (t ≡ s) × (s.pending ≡ [])

-- memory ran out, or a limit refuses a report that fits and holds for its pending task
abbrev pub IsNotTurned : State → Refusal → Type 0
IsNotTurned s e = (e ≡ Memory) ⊎ ((k : ℕ) × (tree : Plan) × (fits tree ≡ true) × HoldsNow s k tree × IsOver k tree s e)

-- nothing is pending, and this many tasks were cut
pub record IsSettled (s t : State) (n : ℕ) : Type 0 where
  pub cuts : Cuts s t n
  pub none : t.pending ≡ []

-- Each turn cut a task, and a task is still pending; or a turn was refused, and each turn before it cut a task.
abbrev pub IsNotSettled : ℕ → State → State → Refusal → Type 0
IsNotSettled turns s t e = ((e ≡ Unfinished) × Cuts s t turns × (0 < length t.pending)) ⊎ ((n : ℕ) × (n < turns) × Cuts s t n × IsNotTurned t e)

-- no task from index n on is hopeless
abbrev pub AreHopefulFrom : ℕ → State → Type 0
AreHopefulFrom n s = list_all (λ t. not (hopeless s.view (atoms_of t))) (drop n s.pending) ≡ true
