use Rattle.std.proofs.Common.{List, subst, sym, ℕ}
use Rattle.poly_tiling.specs.Lists.{mem}
use Rattle.poly_catalogue.specs.Counts.{ArePassing}
use Rattle.poly_catalogue.proofs.Raised.{has_between}
use Rattle.poly_catalogue.proofs.marks.mark_lacking.Goals as goal

pub returns-clause-marks : goal.returns-clause-marks
returns-clause-marks c =
    let p = λ (T : List ℕ). mem T c.args.number in
    c.mark_outside.ensures p c.args.listing.now c.requires.long (subst (λ (l : List ℕ). ArePassing p c.args.listing.now l 1 255) (sym c.deref.ensures.value) (has_between c.args.listing.now c.args.number c.count_number.new.counts.items c.count_number.ensures.counts))
