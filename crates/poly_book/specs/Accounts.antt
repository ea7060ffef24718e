-- What becomes of the task numbers that were given out.
use Rattle.std.specs.Prelude.{List, ℕ, ◌+◌, ◌<◌, ◌==◌, ◌≡◌, ◌≤◌, ◌⊎◌}
use Rattle.poly_tiling.specs.Lists.{tally}
use Rattle.poly_book.specs.declared.step.Ending.{Ending}
use Rattle.poly_book.specs.declared.step.Ending.TheVariants.{Cut, Hopeless}
use Rattle.poly_book.specs.States.{State}
use Rattle.poly_tasks.specs.Tasks.{Task}

-- the number of the task that ended
abbrev pub ended : Ending → ℕ
ended (Cut k) = k
ended (Hopeless k edition) = k

-- how many tasks of the list have the number
abbrev pub pending_as : ℕ → List Task → ℕ
pending_as k ts = tally (λ t. t.number == k) ts

-- how many of the endings are those of a task with the number
abbrev pub ended_as : ℕ → List Ending → ℕ
ended_as k es = tally (λ e. ended e == k) es

-- Each number from 1 up to the last one that was given out is that of one pending task or of one ending, and never both. No
-- other number is that of a pending task or of an ending.
pub record EachIsPendingOrEnded (s : State) : Type 0 where
  pub start : 1 ≤ s.next
  pub each : (k : ℕ) → 1 ≤ k → k < s.next → pending_as k s.pending + ended_as k s.endings ≡ 1
  pub others : (k : ℕ) → (k < 1) ⊎ (s.next ≤ k) → pending_as k s.pending + ended_as k s.endings ≡ 0
