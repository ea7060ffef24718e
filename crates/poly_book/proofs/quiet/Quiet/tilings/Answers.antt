use Rattle.poly_tiling.proofs.Listings.{listings_show_lem}
use Rattle.poly_book.proofs.quiet.Quiet.tilings.Goals as goal

pub returns-clause-all : goal.returns-clause-all
returns-clause-all c = rw (← c.self.view_is) (listings_show_lem _ _ _ c.self.invariant.well c.self.invariant.shows c.self.invariant.each c.self.invariant.order)
