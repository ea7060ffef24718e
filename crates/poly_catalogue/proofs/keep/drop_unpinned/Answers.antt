use Rattle.std.proofs.Common.{get_or, length, refl, ◌∙◌}
use Rattle.poly_tiling.specs.Lists.{mem}
use Rattle.poly_catalogue.proofs.Counted.{keeps_first, keeps_more, keeps_whole}
use Rattle.poly_catalogue.proofs.Sums.{kept_room}
use Rattle.poly_catalogue.proofs.keep.drop_unpinned.Goals as goal

pub loop-pin-init : goal.loop-pin-init
loop-pin-init c = record { keeps = keeps_first (λ p T. mem T p) c.args.pins.now c.args.listing.now; room = c.requires; long = refl }

pub loop-pin-preserved : goal.loop-pin-preserved
loop-pin-preserved c =
    let p = get_or c.args.pins.now c.loop-pin.pin-index 0 in
    record {
      keeps = keeps_more (λ p T. mem T p) c.args.pins.now c.loop-pin.pin-index 0 c.args.listing.now c.loop-pin.listing c.drop_lacking.new.listing c.loop-pin-test.true c.loop-pin.invariant.keeps c.drop_lacking.ensures.keeps;
      room = kept_room (λ T. mem T p) c.loop-pin.listing c.drop_lacking.new.listing (length c.loop-pin.counts.items) (length c.drop_lacking.new.counts.items) c.drop_lacking.ensures.keeps c.drop_lacking.ensures.long c.loop-pin.invariant.room;
      long = c.drop_lacking.ensures.long ∙ c.loop-pin.invariant.long;
    }

pub returns-clause-keeps : goal.returns-clause-keeps
returns-clause-keeps c = keeps_whole (λ p T. mem T p) c.args.pins.now c.loop-pin.pin-index c.args.listing.now c.loop-pin.listing c.loop-pin-test.false c.loop-pin.invariant.keeps
