use Rattle.std.proofs.Common.{length, refl, subst, ◌∙◌}
use Rattle.poly_tiling.specs.declared.item.Item.{Item}
use Rattle.poly_catalogue.specs.Listed.{Keeps}
use Rattle.poly_catalogue.specs.Stays.{fits}
use Rattle.poly_catalogue.proofs.Counted.{keeps_first, keeps_more, keeps_whole}
use Rattle.poly_catalogue.proofs.Sums.{kept_flags, kept_room}
use Rattle.poly_catalogue.proofs.keep.drop_unfit_items.Goals as goal

pub loop-item-init : goal.loop-item-init
loop-item-init c = record { keeps = keeps_first (λ i T. fits c.args.view.now i T) c.args.items.now c.args.listing.now; flags = c.requires.flags; room = c.requires.room; long = refl }

pub loop-item-preserved : goal.loop-item-preserved
loop-item-preserved c = record {
  keeps = keeps_more (λ i T. fits c.args.view.now i T) c.args.items.now c.loop-item.item-index c.item-item.result c.args.listing.now c.loop-item.listing c.drop_unfit.new.listing c.loop-item-test.true c.loop-item.invariant.keeps
      (subst (λ (z : Item). Keeps (fits c.args.view.now z) c.loop-item.listing c.drop_unfit.new.listing) c.item-item.is c.drop_unfit.ensures.keeps);
  flags = kept_flags (fits c.args.view.now c.item-item.result) c.loop-item.listing c.drop_unfit.new.listing c.args.flag_count c.args.flag_count c.drop_unfit.ensures.keeps refl c.loop-item.invariant.flags;
  room = kept_room (fits c.args.view.now c.item-item.result) c.loop-item.listing c.drop_unfit.new.listing (length c.loop-item.counts.items) (length c.drop_unfit.new.counts.items) c.drop_unfit.ensures.keeps c.drop_unfit.ensures.long c.loop-item.invariant.room;
  long = c.drop_unfit.ensures.long ∙ c.loop-item.invariant.long;
}

pub returns-clause-keeps : goal.returns-clause-keeps
returns-clause-keeps c = keeps_whole (λ i T. fits c.args.view.now i T) c.args.items.now c.loop-item.item-index c.args.listing.now c.loop-item.listing c.loop-item-test.false c.loop-item.invariant.keeps
