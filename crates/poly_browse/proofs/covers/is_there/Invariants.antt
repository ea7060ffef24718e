use Rattle.std.proofs.Common.{false, ℕ, ◌<◌, ◌≡◌}
use Rattle.poly_tiling.specs.Puzzle.{has_item}
use Rattle.poly_browse.proofs.covers.is_there.Given as goal

abbrev pub invariant-loop-at : goal.invariant-loop-at
invariant-loop-at l = (n : ℕ) → n < l.at → has_item l.view n l.item ≡ false
