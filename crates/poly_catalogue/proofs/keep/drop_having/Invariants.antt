use Rattle.std.proofs.Common.{Bool, List, length, not, ◌&&◌, ◌≡◌, ℕ}
use Rattle.poly_tiling.specs.Lists.{mem, tally}
use Rattle.poly_catalogue.proofs.keep.drop_having.Given as goal

abbrev pub invariant-loop-index : goal.invariant-loop-index
invariant-loop-index l = (f : List ℕ → Bool) → tally (λ T. f T && not (mem T l.number)) l.listing ≡ tally (λ T. f T && not (mem T l.number)) l.initial.listing

abbrev pub decreases-loop-index : goal.decreases-loop-index
decreases-loop-index l = length l.listing
