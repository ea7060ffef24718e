use Rattle.std.proofs.Common.{length, not, take, ◌≡◌}
use Rattle.std.specs.List.{list_all}
use Rattle.poly_tiling.specs.declared.item.Item.TheVariants.{Piece}
use Rattle.poly_catalogue.specs.Listed.{AddsMarks}
use Rattle.poly_catalogue.specs.Stays.{fits}
use Rattle.poly_catalogue.proofs.marks.mark_unfit_pieces.Given as goal

abbrev pub invariant-loop-name : goal.invariant-loop-name
invariant-loop-name l = record {
  marks : AddsMarks (λ T. not (list_all (λ i. fits l.view (Piece i) T) (take l.name-index l.names))) l.listing l.initial.marks.items l.marks.items;
  long : length l.counts.items ≡ length l.initial.counts.items;
}
