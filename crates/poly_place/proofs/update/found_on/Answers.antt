use Rattle.poly_place.proofs.Untouched.{listed_on}
use Rattle.poly_place.proofs.update.found_on.Goals as goal

pub returns-clause-ok : goal.returns-clause-ok
returns-clause-ok c = listed_on c.args.after.now c.args.cell c.in_ok-list.list.items c.in_ok-list.ensures.ok
