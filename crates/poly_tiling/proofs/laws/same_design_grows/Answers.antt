use Rattle.poly_tiling.proofs.Designs.{same_design}
use Rattle.poly_tiling.proofs.laws.same_design_grows.Goals as goal

pub returns : goal.returns
returns c = same_design
