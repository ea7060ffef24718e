use Rattle.std.proofs.Common.{List, refl, subst, sym, true, ℕ, ◌≡◌}
use Rattle.poly_tiling.specs.Lists.{mem}
use Rattle.poly_frame.proofs.frame.Frame.new.Goals as goal

pub begin-requires : goal.begin-requires
begin-requires c =
    let made = c.in_ok-whole.ensures.made in
    record { part = made.part; whole = tt; all = λ q l o. subst (λ (xs : List ℕ). mem xs q ≡ true) (sym made.all) l; alive = c.in-Ok.ensures.bits }

pub returns : goal.returns
returns c = c.begin.ensures

pub returns-in_err-whole-clause-well : goal.returns-in_err-whole-clause-well
returns-in_err-whole-clause-well c = c.in_err-whole.ensures.well

pub returns-in_err-whole-clause-once : goal.returns-in_err-whole-clause-once
returns-in_err-whole-clause-once c = c.in_err-whole.ensures.once

pub returns-in_default : goal.returns-in_default
returns-in_default c = record { made = tt; why = refl; well = c.in_ok-whole.ensures.well; once = c.in_ok-whole.ensures.once }
