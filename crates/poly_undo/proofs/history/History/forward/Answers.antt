use Rattle.std.proofs.Common.{◌≡◌, ◌++◌, ◌∷◌, []}
use Rattle.poly_undo.proofs.Turns.{newest_moved}
use Rattle.poly_undo.proofs.history.History.forward.Goals as goal

pub returns : goal.returns
returns g c =
    let taken : c.self.inside.redo.items ≡ c.pop.new.self.items ++ c.unwrap-step.result ∷ [] =
    rw c.unwrap-step.ensures at c.pop.ensures.items in
    rw (← c.self.view_is) (record {
      step = c.unwrap-step.result;
      taken = taken;
      put = rw (c.push_back.ensures.items, c.self.invariant.undo_room, c.replace-stood.ensures.after) (newest_moved _ _ _ _ _ c.self.invariant.few taken);
      given = c.replace-stood.ensures.value;
    })
