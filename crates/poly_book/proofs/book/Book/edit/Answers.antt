use Rattle.std.proofs.Common.{IfErr, IfOk, OnErr, OnOk, inl, inr, refl, subst, ◌≡◌}
use Rattle.std.proofs.lemmas.Result.{IfErr-weaker, IfOk-weaker, err_from_is_err_and, on_ok_weaker}
use Rattle.poly_book.specs.Amounts.{IsNarrow}
use Rattle.poly_book.specs.Keeps.{state_of}
use Rattle.poly_book.specs.Refused.{IsNotEdited}
use Rattle.poly_book.specs.States.{State}
use Rattle.poly_book.specs.Steps.{IsEdited}
use Rattle.poly_book.proofs.book.Book.edit.Goals as goal

pub returns-in_err-change : goal.returns-in_err-change
returns-in_err-change c =
    let p = err_from_is_err_and c.from_residual.result c.from_residual.ensures.1 in
    rw (p.1, p.2) record {
      ok = tt;
      narrow = tt;
      err = refl;
      why = subst (λ (s : State). IsNotEdited c.args.edit s c.in_err-change.field-0.0) c.self.view_is (elim c.in_err-change.ensures.why [ inl m ↦ inr (inr m) | inr not ↦ inl not ]);
    }

pub returns : goal.returns
returns c =
    let r = c.apply_change.result in
    let t = state_of c.apply_change.new.parts in
    let g = c.apply_change.ensures in
    let x = c.in_ok-change.change in
    let accepted = c.in_ok-change.ensures.ok in
    record {
      ok = subst (λ (s : State). IfOk r (λ done. IsEdited c.args.edit s t done)) c.self.view_is (IfOk-weaker r _ _ (λ d made. record { change = x; accepted = accepted; made = made }) g.ok);
      narrow = subst (λ (s : State). OnOk r (IsNarrow s.design t.design)) c.self.view_is (on_ok_weaker r (λ h. h refl) g.narrow);
      err = subst (λ (s : State). OnErr r (t ≡ s)) c.self.view_is g.err;
      why = subst (λ (s : State). IfErr r (λ e. IsNotEdited c.args.edit s e)) c.self.view_is (IfErr-weaker r _ _ (λ e not. inr (inl (x, accepted, not))) g.why);
    }
