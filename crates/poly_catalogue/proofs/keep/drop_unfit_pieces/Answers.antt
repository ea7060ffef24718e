use Rattle.std.proofs.Common.{List, length, refl, subst, ◌∙◌, ℕ}
use Rattle.poly_tiling.specs.declared.item.Item.TheVariants.{Piece}
use Rattle.poly_catalogue.specs.Listed.{Keeps}
use Rattle.poly_catalogue.specs.Stays.{fits}
use Rattle.poly_catalogue.proofs.Counted.{keeps_first, keeps_more, keeps_whole}
use Rattle.poly_catalogue.proofs.Sums.{kept_flags, kept_room}
use Rattle.poly_catalogue.proofs.keep.drop_unfit_pieces.Goals as goal

pub loop-name-init : goal.loop-name-init
loop-name-init c = record { keeps = keeps_first (λ i T. fits c.args.view.now (Piece i) T) c.args.names.now c.args.listing.now; flags = c.requires.flags; room = c.requires.room; long = refl }

pub loop-name-preserved : goal.loop-name-preserved
loop-name-preserved c = record {
  keeps = keeps_more (λ i T. fits c.args.view.now (Piece i) T) c.args.names.now c.loop-name.name-index c.name-item.result c.args.listing.now c.loop-name.listing c.drop_unfit.new.listing c.loop-name-test.true c.loop-name.invariant.keeps
      (subst (λ (z : List ℕ). Keeps (fits c.args.view.now (Piece z)) c.loop-name.listing c.drop_unfit.new.listing) c.name-item.is c.drop_unfit.ensures.keeps);
  flags = kept_flags (fits c.args.view.now (Piece c.name-item.result)) c.loop-name.listing c.drop_unfit.new.listing c.args.flag_count c.args.flag_count c.drop_unfit.ensures.keeps refl c.loop-name.invariant.flags;
  room = kept_room (fits c.args.view.now (Piece c.name-item.result)) c.loop-name.listing c.drop_unfit.new.listing (length c.loop-name.counts.items) (length c.drop_unfit.new.counts.items) c.drop_unfit.ensures.keeps c.drop_unfit.ensures.long c.loop-name.invariant.room;
  long = c.drop_unfit.ensures.long ∙ c.loop-name.invariant.long;
}

pub returns-clause-keeps : goal.returns-clause-keeps
returns-clause-keeps c = keeps_whole (λ i T. fits c.args.view.now (Piece i) T) c.args.names.now c.loop-name.name-index c.args.listing.now c.loop-name.listing c.loop-name-test.false c.loop-name.invariant.keeps
