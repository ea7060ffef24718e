use Rattle.std.proofs.Common.{List, subst, sym, true, ℕ, ◌≡◌}
use Rattle.poly_tiling.proofs.Orders.{live_once}
use Rattle.poly_tiling.specs.Lists.{mem}
use Rattle.poly_frame.proofs.frame.Frame.over.Goals as goal

pub begin-requires : goal.begin-requires
begin-requires c = record { part = c.requires.part; whole = tt; all = λ q l o. subst (λ (xs : List ℕ). mem xs q ≡ true) (sym c.requires.all) l; alive = c.in_ok-alive.ensures.bits }

pub returns : goal.returns
returns c = c.begin.ensures

pub returns-in_err-alive-clause-well : goal.returns-in_err-alive-clause-well
returns-in_err-alive-clause-well c = c.requires.part.well

pub returns-in_err-alive-clause-once : goal.returns-in_err-alive-clause-once
returns-in_err-alive-clause-once c = live_once c.args.view.now c.requires.part.well
