use Rattle.poly_crew.proofs.Crossing.{at_a_desk}
use Rattle.poly_tests.proofs.desk_crews.crew_of_two.Goals as goal

pub crew-requires-sync-B : goal.crew-requires-sync-B
crew-requires-sync-B g c κs within = search (at_a_desk) depth 60 fits 20000
