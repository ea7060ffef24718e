use Rattle.std.proofs.Common.{List, ℕ, false, get_or, take, ◌≡◌}
use Rattle.std.specs.List.{list_any}
use Rattle.poly_browse.specs.Gathering.{AreSmall, names_it}
use Rattle.poly_browse.proofs.lines.line_of.Given as goal

abbrev pub invariant-loop-placement : goal.invariant-loop-placement
invariant-loop-placement l = (T : List ℕ) → AreSmall T → list_any (λ n. get_or l.flags.items n false) T ≡ list_any (λ p. names_it l.view T p) (take l.placement-index l.placements)
