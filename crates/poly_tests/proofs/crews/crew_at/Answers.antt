use Rattle.poly_grid.proofs.refusal.Refusal.TheSendSync as Refusal
use Rattle.poly_crew.proofs.Crossing.{at_a_desk}
use Rattle.poly_tests.proofs.crews.crew_at.Goals as goal

pub crew-requires-sync-B : goal.crew-requires-sync-B
crew-requires-sync-B g c κs within = search (at_a_desk, Refusal.the_field_send, Refusal.the_send, Refusal.the_field_sync, Refusal.the_sync) depth 60 fits 20000
