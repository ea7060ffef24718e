use Rattle.std.proofs.Common.{[], All, ap, arith, subst, sym, ◌++◌, ◌∙◌, ◌∷◌, ◌≡◌}
use Rattle.std.proofs.lemmas.List.Elements.{All-push}
use Rattle.poly_crew.proofs.turns.hand_in.Goals as goal

pub returns-in-Ok-clause-worked : goal.returns-in-Ok-clause-worked
returns-in-Ok-clause-worked g c =
    let gave = g.B.Bench.gave c.hand_in_found.new.pass in
    let before = c.args.worker.now.receipts.items in
    let items : c.push_reserved.new.self.items ≡ before ++ c.in-Ok.receipt ∷ [] = c.push_reserved.ensures.items ∙ ap (λ rs. rs ++ c.in-Ok.receipt ∷ []) c.reserve.ensures.items in
    record {
      changes_stay = c.in-Ok.ensures.changes;
      cuts_are = omega (arith, c.in-Ok.ensures.cut, c.push_reserved.ensures.len, c.reserve.ensures.len);
      few = omega (arith, c.push_reserved.ensures.len, c.reserve.ensures.len);
      given = λ all. subst (All gave) (sym items) (All-push gave before c.in-Ok.receipt (λ k d below. c.in-Ok.ensures.gave _ (all k d below)) c.in-Ok.ensures.given);
    }
