use Rattle.std.specs.Fmt.{digits}
use Rattle.poly_cli.proofs.sessions.answer_opening.Goals as goal

pub returns-in-Ok : goal.returns-in-Ok
unfolding digits
returns-in-Ok g c = rw c.in-Ok.is c.write_whole.ensures
