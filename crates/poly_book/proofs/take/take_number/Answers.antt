use Rattle.std.proofs.Common.{None, Some, ap, arith, get_or, rules, subst, sym, ◌∙◌, ◌≡◌}
use Rattle.std.proofs.lemmas.List.{length-reverse}
use Rattle.std.specs.List.{position_from}
use Rattle.std.specs.List.Sorted.{IsNonDecreasingBy}
use Rattle.std.specs.Prelude.{◌==◌}
use Rattle.poly_tasks.specs.declared.task.Pending.{Pending}
use Rattle.poly_tasks.specs.Meaning.{IsTask, task_of, tasks_of}
use Rattle.poly_tasks.specs.Tasks.{find_task}
use Rattle.poly_tasks.proofs.Halving.{numbers_rise}
use Rattle.poly_tasks.proofs.Held.{task_at}
use Rattle.poly_tasks.proofs.Numbered.{found_in}
use Rattle.poly_tasks.proofs.Indices.{at_below, at_find, first_at, nowhere}
use Rattle.poly_book.proofs.take.take_number.Goals as goal

pub index_of-requires : goal.index_of-requires
index_of-requires c =
    let a = c.args.parts.now in
    subst (λ ps. IsNonDecreasingBy (λ (p : Pending). p.number) ps) (sym c.deref.ensures.value) (numbers_rise 0 a.next a.log a.tasks.items c.requires.whole.rising)

pub returns-in_default-clause-ok : goal.returns-in_default-clause-ok
returns-in_default-clause-ok c =
    let e : position_from (λ (p : Pending). p.number == c.args.number) 0 c.args.parts.now.tasks.items ≡ None = search rules in
    nowhere c.args.number 0 c.args.parts.now.log c.args.parts.now.tasks.items e

pub index-requires : goal.index-requires
index-requires c =
    let e : position_from (λ (p : Pending). p.number == c.args.number) 0 c.args.parts.now.tasks.items ≡ Some c.in-Some.at = search rules in
    omega (arith, at_below c.args.number c.args.parts.now.tasks.items c.in-Some.at (first_at c.args.number c.args.parts.now.tasks.items c.in-Some.at e))

pub make_job-requires : goal.make_job-requires
make_job-requires c =
    let e : position_from (λ (p : Pending). p.number == c.args.number) 0 c.args.parts.now.tasks.items ≡ Some c.in-Some.at = search rules in
    let x = c.index.result.now in
    let is : x ≡ get_or c.args.parts.now.tasks.items c.in-Some.at x = search rules in
    subst (λ p. IsTask c.args.parts.now.log p) (sym is) (task_at c.args.parts.now.log c.args.parts.now.tasks.items c.in-Some.at x c.requires.tasks (at_below c.args.number c.args.parts.now.tasks.items c.in-Some.at (first_at c.args.number c.args.parts.now.tasks.items c.in-Some.at e)))

pub returns-clause-ok : goal.returns-clause-ok
returns-clause-ok c =
    let ps = c.args.parts.now.tasks.items in
    let log = c.args.parts.now.log in
    let e : position_from (λ (p : Pending). p.number == c.args.number) 0 ps ≡ Some c.in-Some.at = search rules in
    let x = c.index.result.now in
    let is : x ≡ get_or ps c.in-Some.at x = search rules in
    let found : find_task c.args.number (tasks_of log ps) ≡ Some (task_of log x) = at_find c.args.number log ps c.in-Some.at x (first_at c.args.number ps c.in-Some.at e) ∙ ap (λ y. Some (task_of log y)) (sym is) in
    record {
      task = task_of log x;
      found = found;
      number = c.in_ok-taken.ensures.task ∙ (found_in c.args.number (tasks_of log ps) (task_of log x) found).1;
      edition_is = c.in_ok-taken.ensures.edition ∙ sym (length-reverse c.args.parts.now.steps.items);
      atoms = c.in_ok-taken.ensures.atoms;
      view = c.in_ok-taken.ensures.view;
    }
