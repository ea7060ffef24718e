use Rattle.poly_tiling.specs.Puzzle.{has_item}
use Rattle.poly_browse.proofs.Worded.{AreFlags}
use Rattle.poly_browse.proofs.covers.item_flags.Given as goal

abbrev pub invariant-loop-at : goal.invariant-loop-at
invariant-loop-at l = AreFlags (λ n. has_item l.view n l.item) l.at l.flags.items
