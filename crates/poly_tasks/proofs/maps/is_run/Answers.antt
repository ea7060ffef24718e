use Rattle.std.proofs.Common.{rules, sym, ◌∙◌}
use Rattle.poly_lists.proofs.Exact.{atom_decides}
use Rattle.poly_tasks.proofs.maps.is_run.Goals as goal

pub returns-then-run-number : goal.returns-then-run-number
returns-then-run-number c = λ yes. ((atom_decides c.args.run.now.atom c.args.atom.now).0 (sym c.eq.ensures ∙ yes), search rules)
