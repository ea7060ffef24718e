use Rattle.std.proofs.Common.{Some, ap, arith, get_or, length, refl, rules, subst, sym, ◌-◌, ◌<◌, ◌∙◌, ◌≡◌}
use Rattle.std.proofs.lemmas.List.{length-reverse}
use Rattle.poly_tasks.specs.Meaning.{IsTask, task_of, tasks_of}
use Rattle.poly_tasks.specs.Tasks.{find_task}
use Rattle.poly_tasks.proofs.Held.{task_at}
use Rattle.poly_tasks.proofs.Indices.{find_where}
use Rattle.poly_book.proofs.take.take_any.Goals as goal

pub make_job-requires : goal.make_job-requires
make_job-requires c =
    let ps = c.args.parts.now.tasks.items in
    let x = c.index.result.now in
    let count : c.len.result ≡ length ps = search rules in
    let some : 0 < c.len.result = search rules in
    let low : c.len.result - 1 < length ps = omega (arith, count, some) in
    let is : x ≡ get_or ps (c.len.result - 1) x = search rules in
    subst (λ p. IsTask c.args.parts.now.log p) (sym is) (task_at c.args.parts.now.log ps (c.len.result - 1) x c.requires.tasks low)

pub returns-clause-ok : goal.returns-clause-ok
returns-clause-ok c =
    let ps = c.args.parts.now.tasks.items in
    let log = c.args.parts.now.log in
    let x = c.index.result.now in
    let count : c.len.result ≡ length ps = search rules in
    let some : 0 < c.len.result = search rules in
    let low : c.len.result - 1 < length ps = omega (arith, count, some) in
    let is : x ≡ get_or ps (c.len.result - 1) x = search rules in
    let there = find_where 0 c.args.parts.now.next log ps (c.len.result - 1) x c.requires.whole.rising low in
    let found : find_task x.number (tasks_of log ps) ≡ Some (task_of log x) = ap (λ k. find_task k (tasks_of log ps)) (ap (λ y. y.number) is) ∙ there ∙ ap (λ y. Some (task_of log y)) (sym is) in
    record {
      task = task_of log x;
      found = ap (λ k. find_task k (tasks_of log ps)) c.in_ok-taken.ensures.task ∙ found;
      number = let e : c.in_ok-taken.taken.task ≡ c.in_ok-taken.taken.task = refl in e;
      edition_is = c.in_ok-taken.ensures.edition ∙ sym (length-reverse c.args.parts.now.steps.items);
      atoms = c.in_ok-taken.ensures.atoms;
      view = c.in_ok-taken.ensures.view;
    }
