use Rattle.std.proofs.Common.{eqb, length}
use Rattle.poly_catalogue.proofs.Raised.{counts_one}
use Rattle.poly_catalogue.proofs.counts.count_number.Goals as goal

pub returns-clause-counts : goal.returns-clause-counts
returns-clause-counts c = counts_one (λ p. eqb p c.args.number) c.args.listing.now (length c.args.counts.now.items) c.clear.new.counts.items c.add_number.new.counts.items c.clear.ensures c.add_number.ensures.counts
