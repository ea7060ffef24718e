use Rattle.std.proofs.Common.{ap, length, map, subst, sym, ◌+◌, ◌<◌, ◌∙◌, ◌≡◌, rules}
use Rattle.std.specs.Option.{option_copied}
use Rattle.std.specs.Prelude.{IfErr, ◌⊎◌}
use Rattle.poly_grid.specs.declared.refusal.Refusal.TheVariants.{Memory, Spent}
use Rattle.poly_atom.specs.Stairs.{stairs}
use Rattle.poly_tasks.specs.Meaning.{frozen_of, stored_of}
use Rattle.poly_tasks.specs.Shelves.{crossed, openings}
use Rattle.poly_tasks.specs.Tasks.{hopeful}
use Rattle.poly_tasks.proofs.fresh.fresh_tasks.Goals as goal

pub returns-in-Some-clause-why : goal.returns-in-Some-clause-why
returns-in-Some-clause-why c =
    let log = c.args.log.now in
    let S = stairs c.args.guards.now in
    let same : crossed (map (λ f. frozen_of log f) c.deref.result.now) S ≡ openings (stored_of log (option_copied c.args.stood)) S =
    ap (λ F. crossed (map (λ f. frozen_of log f) F) S) c.deref.ensures.value ∙ ap (λ o. openings (stored_of log (option_copied o)) S) (sym c.in-Some.is) in
    subst (λ As. IfErr c.opened_crossed.result (λ e. ((e ≡ Spent) × (4294967296 < c.args.next + length (hopeful c.args.view.now As))) ⊎ (e ≡ Memory))) same c.opened_crossed.ensures.why

pub returns-in-Some-clause-ok : goal.returns-in-Some-clause-ok
returns-in-Some-clause-ok c = search rules
