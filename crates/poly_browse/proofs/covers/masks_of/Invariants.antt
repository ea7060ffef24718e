use Rattle.poly_browse.proofs.Masked.{IsPacked}
use Rattle.poly_browse.proofs.covers.masks_of.Given as goal

abbrev pub invariant-loop-at : goal.invariant-loop-at
invariant-loop-at l = IsPacked l.view l.items l.at l.masks.items l.wanted
