use Rattle.poly_catalogue.proofs.Counted.{low_row}
use Rattle.poly_catalogue.proofs.Raised.{adds_number}
use Rattle.std.proofs.Common.{arith, sym, ◌∙◌}
use Rattle.poly_catalogue.proofs.counts.add_number.Goals as goal

pub add_one_each-requires-clause-low : goal.add_one_each-requires-clause-low
add_one_each-requires-clause-low c =
    λ t h.
    let low = low_row c.args.listing.now t c.args.number (sym (c.indices.ensures.exact t) ∙ h) in
    omega (arith, c.requires)

pub returns-clause-counts : goal.returns-clause-counts
returns-clause-counts c = adds_number c.args.listing.now c.args.number c.indices.result.now c.args.counts.now.items c.add_one_each.new.counts.items c.indices.ensures.exact c.indices.ensures.once c.add_one_each.ensures.counts
