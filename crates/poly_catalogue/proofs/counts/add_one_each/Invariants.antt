use Rattle.std.proofs.Common.{length, take, ◌+◌, ◌≡◌, ℕ}
use Rattle.poly_tiling.specs.Lists.{mem, one}
use Rattle.poly_catalogue.specs.Counts.{IsCount}
use Rattle.poly_catalogue.proofs.counts.add_one_each.Given as goal

abbrev pub invariant-loop-index : goal.invariant-loop-index
invariant-loop-index l = record {
  long : length l.counts.items ≡ length l.initial.counts.items;
  raised : (t n : ℕ) → IsCount l.initial.counts.items t n → IsCount l.counts.items t (n + one (mem (take l.index-index l.indices) t));
}
