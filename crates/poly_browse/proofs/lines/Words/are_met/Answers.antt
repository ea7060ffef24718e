use Rattle.poly_browse.proofs.Worded.{small_from}
use Rattle.poly_browse.proofs.lines.Words.are_met.Goals as goal

pub returns-then-not-has_one-clause-small : goal.returns-then-not-has_one-clause-small
returns-then-not-has_one-clause-small c = small_from c.args.numbers.now c.type_inv.numbers

pub returns-else-not-has_one-clause-small : goal.returns-else-not-has_one-clause-small
returns-else-not-has_one-clause-small c = small_from c.args.numbers.now c.type_inv.numbers
