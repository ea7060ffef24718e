use Rattle.std.proofs.Common.{List, subst, sym, ℕ}
use Rattle.poly_catalogue.specs.Counts.{ArePassing}
use Rattle.poly_catalogue.specs.Stays.{fits}
use Rattle.poly_catalogue.proofs.Raised.{fits_between}
use Rattle.poly_catalogue.proofs.marks.mark_unfit.Goals as goal

pub returns-clause-marks : goal.returns-clause-marks
returns-clause-marks c =
    let p = fits c.args.view.now c.args.item.now in
    let l = c.bounds-least.result.0 in
    let m = c.bounds-least.result.1 in
    c.mark_outside.ensures p c.args.listing.now c.requires.long (subst (λ (z : List ℕ). ArePassing p c.args.listing.now z l m) (sym c.deref.ensures.value)
    (fits_between c.args.view.now c.args.item.now c.args.listing.now c.count_item.new.counts.items l m c.requires.well c.bounds-least.ensures.least c.bounds-least.ensures.most c.count_item.ensures.counts))
