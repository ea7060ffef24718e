use Rattle.poly_tiling.proofs.Listings.{listings_show_lem}
use Rattle.poly_tiling.proofs.laws.listings_show.Goals as goal

pub returns : goal.returns
returns c = listings_show_lem
