use Rattle.std.proofs.Common.{List, ℕ, take, true, ◌≡◌}
use Rattle.std.specs.List.{list_all}
use Rattle.poly_tiling.specs.Lists.{distinct, mem}
use Rattle.poly_browse.specs.Gathering.{names_it}
use Rattle.poly_browse.proofs.lines.has_of.Given as goal

abbrev pub invariant-loop-placement : goal.invariant-loop-placement
invariant-loop-placement l = record {
  same : (T : List ℕ) → list_all (λ n. mem T n) l.numbers.items ≡ list_all (λ p. names_it l.view T p) (take l.placement-index l.placements);
  once : distinct l.numbers.items ≡ true;
}
