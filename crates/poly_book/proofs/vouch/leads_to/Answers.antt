use Rattle.std.proofs.Common.{rules}
use Rattle.poly_book.proofs.Leading.{lead_first}
use Rattle.poly_book.proofs.vouch.leads_to.Goals as goal

pub made_by-requires : goal.made_by-requires
made_by-requires c = lead_first c.args.first.now c.args.count c.args.steps.now c.requires

pub returns-clause-ok : goal.returns-clause-ok
returns-clause-ok c = search rules
