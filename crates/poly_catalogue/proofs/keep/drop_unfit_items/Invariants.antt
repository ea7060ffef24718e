use Rattle.std.proofs.Common.{length, take, ◌≡◌, ◌≤◌}
use Rattle.std.specs.List.{list_all}
use Rattle.poly_catalogue.specs.Catalogued.{HasFlags}
use Rattle.poly_catalogue.specs.Listed.{Keeps}
use Rattle.poly_catalogue.specs.Stays.{fits}
use Rattle.poly_catalogue.proofs.keep.drop_unfit_items.Given as goal

abbrev pub invariant-loop-item : goal.invariant-loop-item
invariant-loop-item l = record {
  keeps : Keeps (λ T. list_all (λ i. fits l.view i T) (take l.item-index l.items)) l.initial.listing l.listing;
  flags : HasFlags l.listing l.flag_count;
  room : length l.listing ≤ length l.counts.items;
  long : length l.counts.items ≡ length l.initial.counts.items;
}
