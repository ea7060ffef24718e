use Rattle.poly_tiling.proofs.Listings.{over_show_lem}
use Rattle.poly_tiling.proofs.laws.over_shows.Goals as goal

pub returns : goal.returns
returns c = over_show_lem
