use Rattle.std.proofs.Common.{length, take, ◌≡◌, ◌≤◌}
use Rattle.std.specs.List.{list_all}
use Rattle.poly_tiling.specs.Lists.{mem}
use Rattle.poly_catalogue.specs.Listed.{Keeps}
use Rattle.poly_catalogue.proofs.keep.drop_unpinned.Given as goal

abbrev pub invariant-loop-pin : goal.invariant-loop-pin
invariant-loop-pin l = record {
  keeps : Keeps (λ T. list_all (λ p. mem T p) (take l.pin-index l.pins)) l.initial.listing l.listing;
  room : length l.listing ≤ length l.counts.items;
  long : length l.counts.items ≡ length l.initial.counts.items;
}
