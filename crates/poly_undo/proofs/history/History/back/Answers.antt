use Rattle.std.proofs.Common.{sym, refl, ◌∙◌}
use Rattle.poly_undo.proofs.Turns.{next_of_ends}
use Rattle.poly_undo.proofs.history.History.back.Goals as goal

pub returns : goal.returns
returns g c =
    rw (← c.self.view_is) (record {
      step = c.unwrap-step.result;
      taken = rw c.pop_back.ensures.items (next_of_ends _ _ (sym c.pop_back.ensures.value ∙ c.unwrap-step.ensures));
      put = rw (c.push_reserved.ensures.items, c.replace-stood.ensures.after) refl;
      given = c.replace-stood.ensures.value;
    })
