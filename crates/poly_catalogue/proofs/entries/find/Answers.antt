use Rattle.poly_catalogue.proofs.Sought.{found_at, never_missed}
use Rattle.poly_catalogue.proofs.entries.find.Goals as goal

pub unreachable-requires : goal.unreachable-requires
unreachable-requires c = never_missed c.args.numbers.now c.args.number c.in-Err.field-0 c.requires.ascends c.requires.has c.in-Err.ensures.position

pub returns : goal.returns
returns c = found_at c.args.numbers.now c.args.number c.in-Ok.position c.requires.ascends c.in-Ok.ensures.position
