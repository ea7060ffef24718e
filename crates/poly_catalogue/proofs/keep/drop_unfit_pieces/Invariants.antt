use Rattle.std.proofs.Common.{length, take, ◌≡◌, ◌≤◌}
use Rattle.std.specs.List.{list_all}
use Rattle.poly_tiling.specs.declared.item.Item.TheVariants.{Piece}
use Rattle.poly_catalogue.specs.Catalogued.{HasFlags}
use Rattle.poly_catalogue.specs.Listed.{Keeps}
use Rattle.poly_catalogue.specs.Stays.{fits}
use Rattle.poly_catalogue.proofs.keep.drop_unfit_pieces.Given as goal

abbrev pub invariant-loop-name : goal.invariant-loop-name
invariant-loop-name l = record {
  keeps : Keeps (λ T. list_all (λ i. fits l.view (Piece i) T) (take l.name-index l.names)) l.initial.listing l.listing;
  flags : HasFlags l.listing l.flag_count;
  room : length l.listing ≤ length l.counts.items;
  long : length l.counts.items ≡ length l.initial.counts.items;
}
