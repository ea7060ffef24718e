-- The state of a team, read from what it keeps; and with which refusals of its crew it answers.
use Rattle.std.specs.Prelude.{Bool, false, true}
use Rattle.poly_grid.specs.declared.refusal.Refusal.{Refusal}
use Rattle.poly_grid.specs.declared.refusal.Refusal.TheVariants.{Memory, Spent, Unfinished, Unsettled}
use Rattle.poly_cli.specs.declared.kept.Kept.{Kept}
use Rattle.poly_cli.specs.declared.kept.Kept.TheVariants.{Lost, Whole}
use Rattle.poly_cli.specs.States.{State, after_failure}

-- the state of the team's book; if the book is lost, its last state, and the refusal with which the team failed
abbrev pub state_of : Kept → State
state_of (Whole solo) = solo
state_of (Lost lost) = after_failure lost.was.value lost.why

-- if the crew ends with this refusal and tasks are still pending, the team answers with it
abbrev pub stops : Refusal → Bool
stops Unfinished = true
stops Memory = true
stops Spent = true
stops (Unsettled seen found) = true
stops _ = false
