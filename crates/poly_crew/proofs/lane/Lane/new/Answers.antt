use Rattle.poly_crew.proofs.Steps.{begins}
use Rattle.poly_crew.proofs.lane.Lane.new.Goals as goal

pub fifo_as-requires : goal.fifo_as-requires
fifo_as-requires c = begins
