use mathlib.Core.Path.{transport}
use Rattle.std.proofs.Common.{ap, arith, inl, inr, length, refl, subst, sym, ◌+◌, ◌<◌, ◌∙◌, ◌≡◌}
use Rattle.std.specs.Option.{option_copied}
use Rattle.std.proofs.lemmas.Result.{err_from_is_err_and}
use Rattle.poly_book.specs.Changing.{AreNext, shelf_by, stood_by}
use Rattle.poly_tasks.specs.Judged.{LackOnce}
use Rattle.poly_tasks.specs.Meaning.{stored_of}
use Rattle.poly_atom.specs.Guards.{guards}
use Rattle.poly_atom.specs.Stairs.{stairs}
use Rattle.poly_tasks.specs.Shelves.{openings, returned}
use Rattle.poly_tasks.specs.Tasks.{hopeful}
use Rattle.poly_tasks.proofs.Lacking.{guards_once}
use Rattle.poly_book.proofs.prepare.gather.Goals as goal

pub next_tasks-requires-clause-held : goal.next_tasks-requires-clause-held
next_tasks-requires-clause-held c = c.shelf_ahead-stood.ensures.held c.args.parts.now.log c.requires.keeps.held

pub next_tasks-requires-clause-once : goal.next_tasks-requires-clause-once
next_tasks-requires-clause-once c = subst LackOnce (sym (c.deref.ensures.value ∙ c.in_ok-guards.ensures.forth)) (guards_once c.args.parts.now.scene c.args.view.now c.requires.made.0.updated.well)

pub returns-in_err-guards : goal.returns-in_err-guards
returns-in_err-guards c =
    let p = err_from_is_err_and c.from_residual.result c.from_residual.ensures.1 in
    rw (p.1, p.2) record {
      ok = tt;
      few = tt;
      narrow = tt;
      why = elim c.in_err-guards.ensures.why [ inl m ↦ inl m | inr m ↦ inr (inr m) ];
    }

pub returns-then-len-ge-MAX_CHANGES : goal.returns-then-len-ge-MAX_CHANGES
returns-then-len-ge-MAX_CHANGES c =
    record {
      ok = tt;
      few = tt;
      narrow = tt;
      why = inr (inl (refl, inl (omega (arith, c.if-len-ge-MAX_CHANGES.true, c.len.ensures, c.args.parts.now.steps.ok))));
    }

pub returns-in_err-returned : goal.returns-in_err-returned
returns-in_err-returned c =
    let p = err_from_is_err_and c.from_residual-in_err-returned.result c.from_residual-in_err-returned.ensures.1 in
    rw (p.1, p.2) record {
      ok = tt;
      few = tt;
      narrow = tt;
      why = inr (inr c.in_err-returned.ensures.why);
    }

pub returns-in_err-shelf : goal.returns-in_err-shelf
returns-in_err-shelf c =
    let p = err_from_is_err_and c.from_residual-in_err-shelf.result c.from_residual-in_err-shelf.ensures.1 in
    rw (p.1, p.2) record {
      ok = tt;
      few = tt;
      narrow = tt;
      why = inr (inr c.in_err-shelf.ensures.why);
    }

pub returns-in_err-tasks : goal.returns-in_err-tasks
returns-in_err-tasks c =
    let p = err_from_is_err_and c.from_residual-in_err-tasks.result c.from_residual-in_err-tasks.ensures.1 in
    let w = c.args.view.now in
    let a = c.args.parts.now in
    let stood : stored_of a.log (option_copied c.shelf_ahead-stood.result) ≡ stood_by a.log c.args.kind a.history = c.shelf_ahead-stood.ensures.stored a.log in
    let given : c.deref.result.now ≡ guards a.scene w = c.deref.ensures.value ∙ c.in_ok-guards.ensures.forth in
    rw (p.1, p.2) record {
      ok = tt;
      few = tt;
      narrow = tt;
      why = elim c.in_err-tasks.ensures.why [ inl m ↦ inr (inl (m.0, inr (transport (λ i. 4294967296 < a.next + length (hopeful w (openings (stood i) (stairs (given i))))) m.1))) | inr m ↦ inr (inr m) ];
    }

pub returns : goal.returns
returns c =
    let w = c.args.view.now in
    let a = c.args.parts.now in
    let stood : stored_of a.log (option_copied c.shelf_ahead-stood.result) ≡ stood_by a.log c.args.kind a.history = c.shelf_ahead-stood.ensures.stored a.log in
    let given : c.deref.result.now ≡ c.in_ok-guards.guards.items = c.deref.ensures.value in
    let tasks : AreNext w a.log a.tasks.items c.deref.result.now (stored_of a.log (option_copied c.shelf_ahead-stood.result)) a.next c.in_ok-tasks.tasks = c.in_ok-tasks.ensures.ok in
    record {
      ok = record {
        guards_are = c.in_ok-guards.ensures.forth;
        guards_small = c.in_ok-guards.ensures.small;
        returned_are = c.in_ok-returned.ensures.ok a.log ∙ ap (λ z. returned z) stood;
        tasks = transport (λ i. AreNext w a.log a.tasks.items (given i) (stood i) a.next c.in_ok-tasks.tasks) tasks;
        shelf_held = c.in_ok-shelf.ensures.held;
        shelf_is = c.in_ok-shelf.ensures.ok ∙ ap (λ m. shelf_by w a.listed a.log a.tasks.items m) c.in_ok-guards.ensures.back;
      };
      few = omega (arith, c.if-len-ge-MAX_CHANGES.false, c.len.ensures, c.args.parts.now.steps.ok);
      narrow = c.in_ok-guards.ensures.narrow;
      why = tt;
    }
