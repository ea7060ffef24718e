use Rattle.std.proofs.Common.{sym, ◌∙◌}
use Rattle.poly_catalogue.proofs.Raised.{adds_covering, adds_none}
use Rattle.poly_catalogue.proofs.counts.add_covering.Goals as goal

pub returns-then-not-covers-clause-counts : goal.returns-then-not-covers-clause-counts
returns-then-not-covers-clause-counts c = adds_none c.args.view.now c.args.item.now c.args.number c.args.listing.now c.args.counts.now.items (sym c.covers.ensures ∙ c.if-not-covers.true)

pub returns-clause-counts : goal.returns-clause-counts
returns-clause-counts c = adds_covering c.args.view.now c.args.item.now c.args.number c.args.listing.now c.args.counts.now.items c.add_number.new.counts.items (sym c.covers.ensures ∙ c.if-not-covers.false) c.add_number.ensures.counts
