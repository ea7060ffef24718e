use Rattle.poly_place.proofs.parts.Parts.of.Goals as goal

pub returns-clause-ok : goal.returns-clause-ok
returns-clause-ok c = record {
  design = c.in_ok-pins.ensures.design;
  places = c.in_ok-places.ensures.ok;
  pins = c.in_ok-pins.ensures.ok;
  bounds = c.in_ok-bounds.ensures.ok;
  small = c.in_ok-bounds.ensures.small;
  few = c.in_ok-places.ensures.few;
  few_pins = c.in_ok-pins.ensures.few;
}
