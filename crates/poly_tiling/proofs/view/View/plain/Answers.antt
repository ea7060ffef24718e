use Rattle.std.proofs.Common.{ap, length, subst, sym, ◌∙◌}
use Rattle.std.specs.List.{range_with_len}
use Rattle.poly_tiling.specs.Puzzle.{View}
use Rattle.poly_tiling.specs.Shows.{AddsPins, IsPlain, Shows}
use Rattle.poly_tiling.proofs.Plain.{PlainParts, ascending_apart, plain_is, plain_shows, plain_well}
use Rattle.poly_tiling.proofs.view.View.plain.Goals as goal

pub number_pins-requires-clause-apart : goal.number_pins-requires-clause-apart
number_pins-requires-clause-apart c = ascending_apart c.in_ok-placements.placements.items c.in_ok-placements.ensures.ok.ascending

pub with-requires : goal.with-requires
with-requires c =
    let d = c.args.design.now in
    let places = c.in_ok-placements.placements.items in
    let v : View = record { placements = c.number_pins.new.placements.items; live = c.in_ok-live.live.items; bounds = c.in_ok-bounds.bounds.items; pins = c.in_ok-pins.pins.items } in
    let parts : PlainParts d places v.placements v.live v.pins v.bounds = record {
      design = c.pieces.ensures.design;
      listed = c.in_ok-placements.ensures.ok;
      pinned = subst (λ es. AddsPins es places v.placements v.pins) c.pieces.ensures.value c.in_ok-pins.ensures.ok;
      first = c.in_ok-live.ensures.ok ∙ ap (λ l. range_with_len 0 (length l)) c.deref.ensures.value;
      bounded = c.in_ok-bounds.ensures.ok;
      small = c.in_ok-bounds.ensures.small;
    } in
    plain_well d v places parts

pub returns-clause-shows : goal.returns-clause-shows
returns-clause-shows c =
    let d = c.args.design.now in
    let places = c.in_ok-placements.placements.items in
    let v : View = record { placements = c.number_pins.new.placements.items; live = c.in_ok-live.live.items; bounds = c.in_ok-bounds.bounds.items; pins = c.in_ok-pins.pins.items } in
    let parts : PlainParts d places v.placements v.live v.pins v.bounds = record {
      design = c.pieces.ensures.design;
      listed = c.in_ok-placements.ensures.ok;
      pinned = subst (λ es. AddsPins es places v.placements v.pins) c.pieces.ensures.value c.in_ok-pins.ensures.ok;
      first = c.in_ok-live.ensures.ok ∙ ap (λ l. range_with_len 0 (length l)) c.deref.ensures.value;
      bounded = c.in_ok-bounds.ensures.ok;
      small = c.in_ok-bounds.ensures.small;
    } in
    subst (λ w. Shows w d) (sym c.with.ensures) (plain_shows d v places parts)

pub returns-clause-plain : goal.returns-clause-plain
returns-clause-plain c =
    let d = c.args.design.now in
    let places = c.in_ok-placements.placements.items in
    let v : View = record { placements = c.number_pins.new.placements.items; live = c.in_ok-live.live.items; bounds = c.in_ok-bounds.bounds.items; pins = c.in_ok-pins.pins.items } in
    let parts : PlainParts d places v.placements v.live v.pins v.bounds = record {
      design = c.pieces.ensures.design;
      listed = c.in_ok-placements.ensures.ok;
      pinned = subst (λ es. AddsPins es places v.placements v.pins) c.pieces.ensures.value c.in_ok-pins.ensures.ok;
      first = c.in_ok-live.ensures.ok ∙ ap (λ l. range_with_len 0 (length l)) c.deref.ensures.value;
      bounded = c.in_ok-bounds.ensures.ok;
      small = c.in_ok-bounds.ensures.small;
    } in
    subst (λ w. IsPlain w d) (sym c.with.ensures) (plain_is d v places parts)
