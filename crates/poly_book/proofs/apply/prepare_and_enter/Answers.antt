use Rattle.std.proofs.Common.{[], ap, arith, inl, inr, length, refl, subst, sym, true, ◌++◌, ◌+◌, ◌<◌, ◌∙◌, ◌∷◌, ◌≡◌, ◌≤◌}
use Rattle.std.specs.Arc.{arc_value}
use Rattle.std.specs.List.{filter, list_all}
use Rattle.std.proofs.lemmas.List.{length-reverse}
use Rattle.std.proofs.lemmas.Result.{err_from_is_err_and}
use Rattle.poly_tiling.specs.Puzzle.{is_tiling}
use Rattle.poly_atom.specs.Guards.{guards}
use Rattle.poly_atom.specs.Stairs.{stairs}
use Rattle.poly_catalogue.specs.Listed.{AreOfEither, AreOnce, AreSame}
use Rattle.poly_book.specs.declared.parts.Parts.{Parts}
use Rattle.poly_book.specs.Changing.{IsPrepared, stood_by}
use Rattle.poly_book.specs.Keeps.{Keeps, state_of}
use Rattle.poly_book.specs.Shown.{shown}
use Rattle.poly_tasks.specs.Opens.{Opens}
use Rattle.poly_tasks.specs.Shelves.{openings}
use Rattle.poly_tasks.specs.Tasks.{hopeful}
use Rattle.poly_book.proofs.Entering.{as_before, entered_stays, enters_by, same_shown, still_not_made, top_of}
use Rattle.poly_tasks.proofs.Held.{opened_length}
use Rattle.poly_book.proofs.Refusing.{full_not_made, memory_not_made}
use Rattle.poly_book.proofs.apply.prepare_and_enter.Goals as goal

pub returns-in_err-entry-clause-keeps : goal.returns-in_err-entry-clause-keeps
returns-in_err-entry-clause-keeps c =
    let p = err_from_is_err_and c.from_residual.result c.from_residual.ensures.1 in
    rw p.1 c.prepare.ensures.keeps

pub returns-in_err-entry-clause-err : goal.returns-in_err-entry-clause-err
returns-in_err-entry-clause-err c =
    let p = err_from_is_err_and c.from_residual.result c.from_residual.ensures.1 in
    let q = c.prepare.ensures in
    rw p.1 (same_shown c.args.parts.now c.prepare.new.parts q.stays q.tasks q.steps q.endings)

pub returns-in_err-entry-clause-why : goal.returns-in_err-entry-clause-why
returns-in_err-entry-clause-why c =
    let p = err_from_is_err_and c.from_residual.result c.from_residual.ensures.1 in
    rw (p.1, p.2) c.in_err-entry.ensures.why

pub enter-requires-clause-from : goal.enter-requires-clause-from
enter-requires-clause-from c =
    let r = c.in_ok-entry.ensures.ok in
    subst (λ z. AreOfEither z c.in_ok-entry.ready.plan.delta c.prepare.new.parts.listed) (sym (c.deref.ensures ∙ r.view_is)) r.either

pub enter-requires-clause-tilings : goal.enter-requires-clause-tilings
enter-requires-clause-tilings c =
    let r = c.in_ok-entry.ensures.ok in
    let w = arc_value c.in_ok-entry.ready.plan.view in
    let e = enters_by c.prepare.new.parts c.args.kind c.args.change.now w c.prepare.ensures.keeps (top_of c.args.kind c.args.change.now c.args.parts.now c.prepare.new.parts c.prepare.ensures.stays c.requires.top) r.leads in
    subst (λ z. list_all (is_tiling z) c.in_ok-entry.entry.returned.items ≡ true) (sym (c.deref.ensures ∙ r.view_is)) (subst (λ L. list_all (is_tiling w) L ≡ true) (sym r.gathered.returned_are) e.tilings)

pub enter-requires-clause-once : goal.enter-requires-clause-once
enter-requires-clause-once c =
    let r = c.in_ok-entry.ensures.ok in
    let e = enters_by c.prepare.new.parts c.args.kind c.args.change.now (arc_value c.in_ok-entry.ready.plan.view) c.prepare.ensures.keeps (top_of c.args.kind c.args.change.now c.args.parts.now c.prepare.new.parts c.prepare.ensures.stays c.requires.top) r.leads in
    subst (λ L. AreOnce (c.prepare.new.parts.listed ++ L)) (sym r.gathered.returned_are) e.once

pub returns-in-Err-clause-keeps : goal.returns-in-Err-clause-keeps
returns-in-Err-clause-keeps c = rw (c.in-Err.ensures.log_stays, c.in-Err.ensures.listed_stays) c.prepare.ensures.keeps

pub returns-in-Err-clause-err : goal.returns-in-Err-clause-err
returns-in-Err-clause-err c =
    let k = c.in-Err.ensures in
    let a = c.prepare.new.parts in
    let q = c.prepare.ensures in
    (λ i. shown a.opened a.design a.scene (k.listed_stays i) (k.log_stays i) a.tasks.items a.next a.history a.steps.items a.endings.items) ∙ same_shown c.args.parts.now a q.stays q.tasks q.steps q.endings

pub returns-in-Err-clause-why : goal.returns-in-Err-clause-why
returns-in-Err-clause-why c =
    let r = c.in_ok-entry.ensures.ok in
    let a = c.prepare.new.parts in
    let q = c.prepare.ensures in
    let k = c.args.kind in
    let x = c.args.change.now in
    let w = arc_value c.in_ok-entry.ready.plan.view in
    let at : c.deref.result.now ≡ w = c.deref.ensures ∙ r.view_is in
    let back = c.in_ok-entry.entry.returned.items in
    let g = r.gathered in
    let st = stood_by a.log k a.history in
    let fresh = c.in_ok-entry.ready.tasks.fresh.items in
    let opens = subst (λ y. Opens (a.log ++ y ∷ []) a.next w (openings st (stairs y)) fresh) g.guards_are g.tasks.fresh_are in
    let low : a.next + length (hopeful w (openings st (stairs (guards a.scene w)))) ≤ 4294967296 =
    omega (arith, g.tasks.few, opened_length (a.log ++ guards a.scene w ∷ []) a.next w (openings st (stairs (guards a.scene w))) fresh opens) in
    elim c.in-Err.ensures.why [
      | inl m ↦ still_not_made k x _ _ _ (same_shown c.args.parts.now a q.stays q.tasks q.steps q.endings) (full_not_made a.log (state_of a) a.history x w refl refl r.leads k (top_of k x c.args.parts.now a q.stays c.requires.top) _ m.0 (subst (λ L. 0 < length L) r.gathered.returned_are m.1)
          (subst (λ L. 1000000 < length (filter (λ T. is_tiling w T) a.listed) + length L) r.gathered.returned_are (subst (λ z. 1000000 < length (filter (λ T. is_tiling z T) a.listed) + length back) at m.2))
          (omega (arith, r.few_steps, length-reverse a.steps.items)) low r.enough)
      | inr m ↦ memory_not_made k x (state_of c.args.parts.now) _ m
    ]

pub returns-in-Ok-clause-ok : goal.returns-in-Ok-clause-ok
returns-in-Ok-clause-ok c =
    let p = c.args.parts.now in
    let b = c.prepare.new.parts in
    let s = c.prepare.ensures.stays in
    let r = c.in_ok-entry.ensures.ok in
    let entry = c.in_ok-entry.entry in
    let ready = c.in_ok-entry.ready in
    let w = arc_value ready.plan.view in
    let ls = c.enter.new.listed in
    let listed : AreSame ls (filter (λ T. is_tiling c.deref.result.now T) b.listed ++ entry.returned.items) = c.in-Ok.ensures.listed in
    let shown_listed = subst (λ z. AreSame ls (filter (λ T. is_tiling z T) b.listed ++ entry.returned.items)) (c.deref.ensures ∙ r.view_is) listed in
    let i = subst (λ (z : Parts). IsPrepared c.args.kind c.args.change.now z entry ready) (as_before p b s) r in
    record {
      entry = entry;
      stays = entered_stays p b ls c.enter.new.log s;
      tasks = c.prepare.ensures.tasks;
      steps = c.prepare.ensures.steps;
      endings = c.prepare.ensures.endings;
      keeps = subst (λ (z : Parts). Keeps z) (as_before p b s) c.prepare.ensures.keeps;
      prepared = record {
        after_is = i.after_is;
        view_is = i.view_is;
        leads = i.leads;
        right = i.right;
        last = i.last;
        either = i.either;
        gathered = i.gathered;
        few_steps = i.few_steps;
        enough = i.enough;
        room_steps = i.room_steps;
        room_endings = i.room_endings;
        room_tasks = i.room_tasks;
      };
      log_is = c.in-Ok.ensures.log ∙ ap (λ (z : Parts). z.log ++ entry.guards.items ∷ []) s;
      listed_is = subst (λ L. AreSame ls (filter (λ T. is_tiling w T) L ++ entry.returned.items)) (ap (λ (z : Parts). z.listed) s) shown_listed;
    }
