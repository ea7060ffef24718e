use Rattle.std.proofs.Common.{length, not, take, ◌≡◌}
use Rattle.std.specs.List.{list_all}
use Rattle.poly_catalogue.specs.Listed.{AddsMarks}
use Rattle.poly_catalogue.specs.Stays.{fits}
use Rattle.poly_catalogue.proofs.marks.mark_unfit_items.Given as goal

abbrev pub invariant-loop-item : goal.invariant-loop-item
invariant-loop-item l = record {
  marks : AddsMarks (λ T. not (list_all (λ i. fits l.view i T) (take l.item-index l.items))) l.listing l.initial.marks.items l.marks.items;
  long : length l.counts.items ≡ length l.initial.counts.items;
}
