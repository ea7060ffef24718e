use Rattle.std.proofs.Common.{ap, inl, inr, refl, subst, sym}
use Rattle.std.proofs.lemmas.Result.{IfErr-weaker, IfOk-weaker, err_from_is_err_and}
use Rattle.poly_design.specs.Changes.{HasBefore, changed, inverse_of}
use Rattle.poly_design.specs.Limits.{IsDesign}
use Rattle.poly_book.specs.Keeps.{state_of}
use Rattle.poly_tasks.specs.Meaning.{ways_of}
use Rattle.poly_book.specs.Refused.{IsNotUndone}
use Rattle.poly_book.proofs.Tops.{can_undo, not_undone_from, undone_from}
use Rattle.poly_book.proofs.edit.undo_change.Goals as goal

pub apply_change-requires-clause-before : goal.apply_change-requires-clause-before
apply_change-requires-clause-before c =
    let t = c.in_ok-change.ensures.top in
    subst (λ y. HasBefore c.args.parts.now.design y) (sym t.2) (can_undo c.requires t.0 t.1).0

pub apply_change-requires-clause-design : goal.apply_change-requires-clause-design
apply_change-requires-clause-design c =
    let t = c.in_ok-change.ensures.top in
    subst (λ y. IsDesign (changed c.args.parts.now.design y)) (sym t.2) (can_undo c.requires t.0 t.1).1

pub apply_change-requires-clause-top : goal.apply_change-requires-clause-top
apply_change-requires-clause-top c = c.in_ok-change.ensures.top

pub returns-clause-ok : goal.returns-clause-ok
returns-clause-ok c =
    let a = c.args.parts.now in
    let t = c.in_ok-change.ensures.top in
    IfOk-weaker c.apply_change.result _ _ (λ done made. undone_from a.log a.history t.0 c.in_ok-change.change done refl t.1 t.2 made) c.apply_change.ensures.ok

pub returns-clause-why : goal.returns-clause-why
returns-clause-why c =
    let a = c.args.parts.now in
    let t = c.in_ok-change.ensures.top in
    IfErr-weaker c.apply_change.result _ (λ r. IsNotUndone (state_of a) r) (λ r made. not_undone_from {s = state_of a} a.log a.history t.0 c.in_ok-change.change r refl t.1 t.2 made) c.apply_change.ensures.why

pub returns-in_err-change-clause-why : goal.returns-in_err-change-clause-why
returns-in_err-change-clause-why c =
    let p = err_from_is_err_and c.from_residual.result c.from_residual.ensures.1 in
    let a = c.args.parts.now in
    rw (p.1, p.2) (elim c.in_err-change.ensures.why [
      | inl m ↦ inl (m.0, ap (λ ss. ways_of a.log ss) m.1)
      | inr m ↦ not_undone_from {s = state_of a} a.log a.history m.1 (inverse_of m.1.change) _ refl m.2 refl (inr (inr m.0))
    ])
