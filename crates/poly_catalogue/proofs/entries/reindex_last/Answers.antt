use Rattle.std.proofs.Common.{arith, length, ◌-◌}
use Rattle.poly_catalogue.proofs.Kept.{last_renamed, last_stays}
use Rattle.poly_catalogue.proofs.entries.reindex_last.Goals as goal

pub returns-then-index-last : goal.returns-then-index-last
returns-then-index-last c = last_stays c.args.tilings.now c.args.positions.now c.args.rows.now c.args.index (omega arith) c.requires.even c.requires.agree

pub returns : goal.returns
returns c = last_renamed c.args.tilings.now c.args.positions.now c.reindex.new.rows (length c.args.tilings.now - 1) c.args.index (omega arith) (omega arith) c.requires.even c.reindex.ensures
