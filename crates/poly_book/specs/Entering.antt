-- What is left of a change once nothing of it can be refused any more.
use Rattle.std.specs.Prelude.{[], ◌++◌, ◌∷◌, ◌≡◌}
use Rattle.std.specs.Arc.{arc_value}
use Rattle.std.specs.List.{filter}
use Rattle.poly_design.specs.declared.change.Change.{Change}
use Rattle.poly_tiling.specs.Puzzle.{is_tiling}
use Rattle.poly_catalogue.specs.Listed.{AreSame}
use Rattle.poly_book.specs.declared.parts.Parts.{Parts}
use Rattle.poly_book.specs.declared.prepare.Entry.{Entry}
use Rattle.poly_book.specs.declared.prepare.Prepared.{Prepared}
use Rattle.poly_book.specs.declared.step.Kind.{Kind}
use Rattle.poly_book.specs.Changing.{IsPrepared}
use Rattle.poly_book.specs.Keeps.{Keeps}

-- From the fields `p` to the fields `q` the change was prepared, its guards were added to the log, and the listed tilings were
-- exchanged. But for the log and the listed tilings, `q` keeps what `p` kept, and shows what `p` showed.
pub record IsEntered (k : Kind) (x : Change) (p q : Parts) (r : Prepared) : Type 0 where
  pub entry : Entry
  pub stays : q ≡ record p { table = q.table; listed = q.listed; log = q.log; tasks = q.tasks; register = q.register; steps = q.steps; endings = q.endings }
  pub tasks : q.tasks.items ≡ p.tasks.items
  pub steps : q.steps.items ≡ p.steps.items
  pub endings : q.endings.items ≡ p.endings.items
  pub keeps : Keeps (record q { listed = p.listed; log = p.log })
  pub prepared : IsPrepared k x (record q { listed = p.listed; log = p.log }) entry r
  pub log_is : q.log ≡ p.log ++ entry.guards.items ∷ []
  pub listed_is : AreSame q.listed (filter (λ T. is_tiling (arc_value r.plan.view) T) p.listed ++ entry.returned.items)
