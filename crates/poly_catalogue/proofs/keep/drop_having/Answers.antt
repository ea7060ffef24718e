use Rattle.std.proofs.Common.{arith, refl}
use Rattle.poly_catalogue.proofs.Counted.{none_has, one_goes}
use Rattle.poly_catalogue.proofs.keep.drop_having.Goals as goal

pub loop-index-init : goal.loop-index-init
loop-index-init c = λ f. refl

pub loop-index-smaller : goal.loop-index-smaller
loop-index-smaller c = omega (arith, c.remove.ensures.less)

pub loop-index-preserved : goal.loop-index-preserved
loop-index-preserved c = one_goes c.args.number c.in-Some.index c.args.listing.now c.loop-index.listing c.remove.new.self c.loop-index.invariant c.in-Some.ensures.has c.remove.ensures.tally

pub returns : goal.returns
returns c = none_has c.args.number c.args.listing.now c.loop-index.listing c.loop-index.invariant c.in_default.ensures.none
