-- What a run of events is, with its replies.
use Rattle.std.specs.Prelude.{List, Some, [], true, ℕ, ◌∷◌, ◌≡◌}
use Rattle.poly_report.specs.Trees.{Plan}
use Rattle.poly_report.specs.Holds.{holds}
use Rattle.poly_report.specs.Shapes.{plan_of}
use Rattle.poly_book.specs.declared.laws.Event.{Event}
use Rattle.poly_book.specs.declared.laws.Event.TheVariants.{Edit, HandIn, Redo, Undo}
use Rattle.poly_book.specs.declared.laws.Reply.{Reply}
use Rattle.poly_book.specs.declared.laws.Reply.TheVariants as reply
use Rattle.poly_book.specs.Refused.{IsNotApplied, IsNotEdited, IsNotRedone, IsNotUndone}
use Rattle.poly_book.specs.Reports.{IsApplied}
use Rattle.poly_book.specs.States.{State}
use Rattle.poly_book.specs.Steps.{IsEdited, IsRedone, IsUndone}
use Rattle.poly_tasks.specs.Tasks.{Task, atoms_of, find_task}

-- the event leads from the first state to the second with this reply; a refused event changes nothing, and is refused for one
-- of its possible causes
abbrev pub Happens : Event → State → State → Reply → Type 0
Happens (Edit e) s t (reply.Done d) = IsEdited e s t d
Happens (Edit e) s t (reply.Applied a) = ⊥
Happens (Edit e) s t (reply.Refused r) = (t ≡ s) × IsNotEdited e s r
Happens Undo s t (reply.Done d) = IsUndone s t d
Happens Undo s t (reply.Applied a) = ⊥
Happens Undo s t (reply.Refused r) = (t ≡ s) × IsNotUndone s r
Happens Redo s t (reply.Done d) = IsRedone s t d
Happens Redo s t (reply.Applied a) = ⊥
Happens Redo s t (reply.Refused r) = (t ≡ s) × IsNotRedone s r
Happens (HandIn p) s t (reply.Done d) = ⊥
Happens (HandIn p) s t (reply.Applied a) = IsApplied p.task p.edition (plan_of p.tree) s t a
Happens (HandIn p) s t (reply.Refused r) = (t ≡ s) × IsNotApplied p.task (plan_of p.tree) s r

-- one event after the other, each with its reply
abbrev pub AllHappen : List Event → State → List Reply → State → Type 0
AllHappen [] s [] t = t ≡ s
AllHappen [] s (r ∷ rs) t = ⊥
AllHappen (e ∷ es) s [] t = ⊥
AllHappen (e ∷ es) s (r ∷ rs) t = (u : State) × Happens e s u r × AllHappen es u rs t

-- the task is pending, and the tree holds for it
abbrev pub HoldsNow : State → ℕ → Plan → Type 0
HoldsNow s k tree = (a : Task) × (find_task k s.pending ≡ Some a) × (holds s.view (atoms_of a) tree ≡ true)

-- if the task is pending, the tree holds for it
abbrev pub KeepsHolding : State → ℕ → Plan → Type 0
KeepsHolding s k tree = (a : Task) → find_task k s.pending ≡ Some a → holds s.view (atoms_of a) tree ≡ true
