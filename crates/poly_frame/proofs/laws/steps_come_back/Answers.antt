use Rattle.poly_frame.proofs.Back.{steps_come_back_lem}
use Rattle.poly_frame.proofs.laws.steps_come_back.Goals as goal

pub returns : goal.returns
returns c = steps_come_back_lem
