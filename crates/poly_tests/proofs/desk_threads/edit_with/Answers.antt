use Rattle.poly_crew.proofs.Crossing.{at_a_desk}
use Rattle.poly_tests.proofs.desk_threads.edit_with.Goals as goal

pub edit_at_once-requires-sync-S : goal.edit_at_once-requires-sync-S
edit_at_once-requires-sync-S g c κs within = search (at_a_desk) depth 60 fits 20000
