use Rattle.std.proofs.Common.{length, sym, ◌-◌}
use Rattle.poly_catalogue.proofs.Counted.{found_low, found_none}
use Rattle.poly_catalogue.proofs.keep.one_having.Goals as goal

pub returns-in-Some-clause-low : goal.returns-in-Some-clause-low
returns-in-Some-clause-low c = (found_low c.args.listing.now c.args.number c.indices.result.now (length c.indices.result.now - 1) c.in-Some.index.now c.indices.ensures (sym c.in-Some.ensures.value)).0

pub returns-in-Some-clause-has : goal.returns-in-Some-clause-has
returns-in-Some-clause-has c = (found_low c.args.listing.now c.args.number c.indices.result.now (length c.indices.result.now - 1) c.in-Some.index.now c.indices.ensures (sym c.in-Some.ensures.value)).1

pub returns-in-None-clause-none : goal.returns-in-None-clause-none
returns-in-None-clause-none c = found_none c.args.listing.now c.args.number c.indices.result.now c.indices.ensures (sym c.in-None.ensures.value)
