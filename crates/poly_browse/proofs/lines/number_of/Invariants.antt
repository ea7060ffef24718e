use Rattle.std.proofs.Common.{[], false, ℕ, ◌<◌, ◌∷◌, ◌≡◌}
use Rattle.poly_tiling.specs.Shows.{names}
use Rattle.poly_browse.specs.Browsing.{is_in}
use Rattle.poly_browse.proofs.lines.number_of.Given as goal

abbrev pub invariant-loop-at : goal.invariant-loop-at
invariant-loop-at l = (n : ℕ) → n < l.at → is_in (names l.view (n ∷ [])) l.placement ≡ false
