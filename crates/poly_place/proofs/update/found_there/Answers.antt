use Rattle.poly_place.proofs.Untouched.{listed_of}
use Rattle.poly_place.proofs.update.found_there.Goals as goal

pub returns-in-Ok-clause-ok : goal.returns-in-Ok-clause-ok
returns-in-Ok-clause-ok c = listed_of c.args.after.now c.args.name c.in-Ok.list.items c.in-Ok.ensures.ok
