use Rattle.std.proofs.Common.{length, not, take, ◌≡◌}
use Rattle.std.specs.List.{list_all}
use Rattle.poly_tiling.specs.Lists.{mem}
use Rattle.poly_catalogue.specs.Listed.{AddsMarks}
use Rattle.poly_catalogue.proofs.marks.mark_unpinned.Given as goal

abbrev pub invariant-loop-pin : goal.invariant-loop-pin
invariant-loop-pin l = record {
  marks : AddsMarks (λ T. not (list_all (λ p. mem T p) (take l.pin-index l.pins))) l.listing l.initial.marks.items l.marks.items;
  long : length l.counts.items ≡ length l.initial.counts.items;
}
