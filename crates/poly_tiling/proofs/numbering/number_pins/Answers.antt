use Rattle.poly_tiling.proofs.Plain.{pins_all, pins_start, pins_step}
use Rattle.poly_tiling.proofs.numbering.number_pins.Goals as goal

pub loop-name-init : goal.loop-name-init
loop-name-init c = rw (c.into_iter-name-iterator.ensures.into_iter_gives.0, c.new-pins.ensures.items) (pins_start _ _ c.requires.apart)

pub loop-name-preserved : goal.loop-name-preserved
loop-name-preserved c = pins_step c.args.pieces.now.entries _ _ (c.in-Some.name.now, c.in-Some.spec.now) c.args.placements.now.items _ _ _ _ c.loop-name.invariant c.in-Some.ensures.steps c.in_ok-number_pin.ensures.ok

pub returns-clause-ok : goal.returns-clause-ok
returns-clause-ok c = pins_all _ _ _ _ _ c.loop-name.invariant c.in-None.ensures.steps.0
