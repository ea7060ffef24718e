-- What a frame is once the list that `options` returned, which borrows the frame, is gone.
use Rattle.std.specs.Prelude.{[], ⊤, ◌≡◌}
use Rattle.std.specs.Borrow.{Fml, MutBor, follows_so}
use mathlib.Core.Option.{none}
use mir.Syntax.{named}
use Rattle.poly_frame.specs.Walk.{Walk}
use Rattle.poly_frame.specs.contracts.frame.Frame as rows

-- The frame is as it was. `named 0` is the frame's lifetime in the signature of `options`.
abbrev pub StaysSame : MutBor Walk → Fml
StaysSame f =
    let row = rows.the_row (record { mir = named 0; lft = [] }) in
    follows_so row row f.ghost_name none (λ _ _. ⊤) (λ last. last ≡ f.now)
