use Rattle.poly_cli.proofs.team.TeamEngine.edit.Goals as goal

pub returns-in-Whole-clause-why : goal.returns-in-Whole-clause-why
returns-in-Whole-clause-why g c = rw c.in-Whole.is c.edit.ensures.why
