use Rattle.std.proofs.Common.{Err, [], ap, arith, drop, get_or, inl, inr, length, nat_lt, refl, subst, sym, take, true, ℕ, ◌++◌, ◌+◌, ◌<◌, ◌∙◌, ◌∷◌, ◌≡◌, ◌≤◌}
use Rattle.std.proofs.lemmas.Bool.{and_from}
use Rattle.std.proofs.lemmas.Result.{err_from_is_err_and}
use Rattle.std.proofs.lemmas.List.{length-reverse, length_push}
use Rattle.std.specs.List.{list_all}
use Rattle.poly_tiling.specs.Puzzle.{is_tiling}
use Rattle.poly_catalogue.specs.Listed.{AreOnce}
use Rattle.poly_book.specs.declared.step.Ending.TheVariants.{Cut}
use Rattle.poly_book.specs.Keeps.{state_of}
use Rattle.poly_tasks.specs.Opens.{Opens}
use Rattle.poly_tasks.specs.Tasks.{hopeful}
use Rattle.poly_book.specs.Reports.{AreLeaves}
use Rattle.poly_report.specs.Trees.{Plan}
use Rattle.poly_book.proofs.Alike.{keeps_alike}
use Rattle.poly_book.proofs.Cataloguing.{cut_enters}
use Rattle.poly_tasks.specs.Meaning.{IsOwn, tasks_of}
use Rattle.poly_tasks.specs.declared.task.Pending.{Pending}
use Rattle.poly_tasks.proofs.Held.{opened_length, task_at}
use Rattle.poly_tasks.proofs.Indices.{at_below, first_at}
use Rattle.poly_book.proofs.Taking.{cut_listed, cut_next, cut_within, took_becomes, took_from, took_keeps}
use Rattle.poly_book.proofs.hand_in.apply_leaves.Goals as goal

pub list_all-requires-clause-tilings : goal.list_all-requires-clause-tilings
list_all-requires-clause-tilings c =
    let a = c.args.parts.now in
    let l = c.requires.leaves.2 in
    let r = cut_enters (state_of a) c.requires.leaves.0 l.task c.requires.leaves.1 c.requires.keeps.whole l.there (and_from _ _ l.small l.cut.right) in
    let at : c.view-2.result.now ≡ a.scene = c.view-2.ensures in
    subst (λ z. list_all (is_tiling z) c.args.leaves.tilings.items ≡ true) (sym at) (subst (λ L. list_all (is_tiling a.scene) L ≡ true) (sym l.cut.tilings) r.tilings)

pub list_all-requires-clause-once : goal.list_all-requires-clause-once
list_all-requires-clause-once c =
    let a = c.args.parts.now in
    let l = c.requires.leaves.2 in
    let r = cut_enters (state_of a) c.requires.leaves.0 l.task c.requires.leaves.1 c.requires.keeps.whole l.there (and_from _ _ l.small l.cut.right) in
    subst (λ L. AreOnce (a.listed ++ L)) (sym l.cut.tilings) r.once

pub remove-task-requires : goal.remove-task-requires
remove-task-requires c =
    let k = c.requires.leaves.0 in
    let ps = c.args.parts.now.tasks.items in
    let l = c.requires.leaves.2 in
    omega (arith, c.in_ok-reserve.ensures.len, at_below k ps c.args.at (first_at k ps c.args.at l.first))

pub returns : goal.returns
returns c =
    let a = c.args.parts.now in
    let x = c.remove-task.result in
    let at : c.view.result.now ≡ a.scene = c.view.ensures in
    let ed : c.len-now.result ≡ length a.log = c.len-now.ensures in
    let f0 : Opens a.log a.next c.view.result.now c.args.leaves.rests c.in_ok-fresh.fresh.items = c.in_ok-fresh.ensures.ok a.log (sym ed) in
    let opens = subst (λ z. Opens a.log a.next z c.args.leaves.rests c.in_ok-fresh.fresh.items) at f0 in
    let is = c.remove-task.ensures.value ∙ ap (λ xs. get_or xs c.args.at x) c.reserve.ensures.items in
    let listed : c.list_all.new.self ≡ a.listed ++ c.args.leaves.tilings.items = c.in_ok-list_all.ensures.ok in
    let tasks = c.push_tasks.ensures ∙ ap (λ xs. xs ++ c.in_ok-fresh.fresh.items) (c.remove-task.ensures.by_index.2 ∙ ap (λ xs. take c.args.at xs ++ drop (c.args.at + 1) xs) c.reserve.ensures.items) in
    let more = c.len-more.ensures ∙ c.in_ok-fresh.fresh.ok.0 in
    let few : a.next + length c.in_ok-fresh.fresh.items ≤ 4294967296 = c.in_ok-fresh.ensures.few in
    let ended = c.push_reserved.ensures.items ∙ ap (λ xs. xs ++ Cut x.number ∷ []) c.reserve-2.ensures.items in
    let count = c.len.ensures ∙ a.endings.ok.0 in
    let found = c.len-found.ensures ∙ c.args.leaves.tilings.ok.0 in
    let long : length c.push_reserved.new.self.items ≡ length a.endings.items + 1 = ap length ended ∙ length_push a.endings.items (Cut x.number) in
    let steps : c.len-now.result ≡ length (state_of a).steps = ed ∙ c.requires.keeps.log_length ∙ sym (length-reverse a.steps.items) in
    let took = λ (k : ℕ) (tree : Plan) (l : AreLeaves a k c.args.at tree c.args.leaves.tilings.items c.args.leaves.rests). took_from a k c.args.at tree c.args.leaves.tilings.items c.args.leaves.rests x c.list_all.new.self c.push_tasks.new.out.items c.in_ok-fresh.fresh.items c.len-more.result c.push_reserved.new.self.items l is listed tasks opens more few ended in
    record {
      keeps = took_keeps c.requires.keeps (took c.requires.leaves.0 c.requires.leaves.1 c.requires.leaves.2);
      ok = λ k tree l. record {
        task = l.task;
        found = l.there;
        right = and_from _ _ l.small l.cut.right;
        becomes = took_becomes c.requires.keeps (took k tree l);
        place = omega (arith, count, long);
        listed = found ∙ ap length l.cut.tilings;
        first = refl;
        opened = refl;
        late = ap (λ n. nat_lt c.args.edition n) steps;
      };
      err = tt;
      why = tt;
    }

pub returns-in_err-fresh : goal.returns-in_err-fresh
returns-in_err-fresh c =
    let p = err_from_is_err_and c.from_residual.result c.from_residual.ensures.1 in
    let s = state_of c.args.parts.now in
    let at : c.view.result.now ≡ c.args.parts.now.scene = c.view.ensures in
    rw (p.1, p.2) record {
      keeps = c.requires.keeps;
      ok = tt;
      err = refl;
      why = λ k tree l. elim c.in_err-fresh.ensures.why [
        | inl m ↦ inl (m.0, cut_next s k l.task tree c.args.leaves.rests l.there (and_from _ _ l.small l.cut.right) l.cut.rests (subst (λ z. 4294967296 < s.next + length (hopeful z c.args.leaves.rests)) at m.1))
        | inr m ↦ inr (inr m)
      ];
    }

pub returns-in_err-reserve : goal.returns-in_err-reserve
returns-in_err-reserve c =
    let p = err_from_is_err_and c.from_residual-in_err-reserve.result c.from_residual-in_err-reserve.ensures.1 in
    let tasks = c.reserve.ensures.items in
    rw p.1 record {
      keeps = keeps_alike refl tasks refl refl c.requires.keeps;
      ok = tt;
      err = ap (λ ps. record (state_of c.args.parts.now) { pending = tasks_of c.args.parts.now.log ps }) tasks;
      why = λ k tree l. inr (inr p.2);
    }

pub returns-in_err-reserve-2 : goal.returns-in_err-reserve-2
returns-in_err-reserve-2 c =
    let p = err_from_is_err_and c.from_residual-in_err-reserve-2.result c.from_residual-in_err-reserve-2.ensures.1 in
    let tasks = c.reserve.ensures.items in
    let endings = c.reserve-2.ensures.items in
    rw p.1 record {
      keeps = keeps_alike refl tasks refl endings c.requires.keeps;
      ok = tt;
      err = λ i. record (state_of c.args.parts.now) { pending = tasks_of c.args.parts.now.log (tasks i); endings = endings i };
      why = λ k tree l. inr (inr p.2);
    }

pub returns-in_err-list_all : goal.returns-in_err-list_all
returns-in_err-list_all c =
    let p = err_from_is_err_and c.from_residual-in_err-list_all.result c.from_residual-in_err-list_all.ensures.1 in
    let a = c.args.parts.now in
    let s = state_of a in
    let at : c.view.result.now ≡ a.scene = c.view.ensures in
    let ed : c.len-now.result ≡ length a.log = c.len-now.ensures in
    let f0 : Opens a.log a.next c.view.result.now c.args.leaves.rests c.in_ok-fresh.fresh.items = c.in_ok-fresh.ensures.ok a.log (sym ed) in
    let opens = subst (λ z. Opens a.log a.next z c.args.leaves.rests c.in_ok-fresh.fresh.items) at f0 in
    let few : a.next + length c.in_ok-fresh.fresh.items ≤ 4294967296 = c.in_ok-fresh.ensures.few in
    let low : s.next + length (hopeful s.view c.args.leaves.rests) ≤ 4294967296 = omega (arith, few, opened_length a.log a.next a.scene c.args.leaves.rests c.in_ok-fresh.fresh.items opens) in
    let listed = c.in_err-list_all.ensures.err in
    let tasks = c.reserve.ensures.items in
    let endings = c.reserve-2.ensures.items in
    rw (p.1, p.2) record {
      keeps = keeps_alike listed tasks refl endings c.requires.keeps;
      ok = tt;
      err = λ i. record s { listed = listed i; pending = tasks_of a.log (tasks i); endings = endings i };
      why = λ k tree l. elim c.in_err-list_all.ensures.why [
        | inl m ↦
            let right = and_from _ _ l.small l.cut.right in
            inr (inl (m, cut_listed s k l.task tree c.args.leaves.tilings.items l.there right l.cut.tilings (c.in_err-list_all.ensures.full.0 (ap Err m)), cut_within s k l.task tree c.args.leaves.rests l.there right l.cut.rests low))
        | inr m ↦ inr (inr m)
      ];
    }

pub index-requires : goal.index-requires
index-requires c =
    let k = c.requires.leaves.0 in
    let ps = c.args.parts.now.tasks.items in
    let l = c.requires.leaves.2 in
    omega (arith, c.args.parts.now.tasks.ok.0, at_below k ps c.args.at (first_at k ps c.args.at l.first))

pub list_of-base-requires : goal.list_of-base-requires
list_of-base-requires c =
    let k = c.requires.leaves.0 in
    let a = c.args.parts.now in
    let ps = a.tasks.items in
    let l = c.requires.leaves.2 in
    let low : c.args.at < length ps = omega (arith, at_below k ps c.args.at (first_at k ps c.args.at l.first)) in
    let x = c.index.result.now in
    let is = c.index.ensures in
    subst (λ (t : Pending). IsOwn a.log t.own) (sym is) (task_at a.log ps c.args.at x c.requires.keeps.tasks low).own
