use Rattle.poly_crew.proofs.Crossing.{at_a_desk}
use Rattle.std.proofs.Common.{◌∙◌}
use Rattle.poly_cli.proofs.Crewed.{same_sum}
use Rattle.poly_cli.proofs.teamwork.let_work.Goals as goal

pub returns-in-Ok : goal.returns-in-Ok
returns-in-Ok g c = same_sum (λ p. p.changes) c.crew-after.result.passes.items c.args.passes.items c.crew-after.ensures.changes ∙ c.requires.none

pub crew-after-requires-sync-B : goal.crew-after-requires-sync-B
crew-after-requires-sync-B g c κs within = search (at_a_desk) depth 60 fits 20000
