use Rattle.std.proofs.Common.{List, subst, ℕ}
use Rattle.poly_catalogue.specs.Listed.{AreMarked}
use Rattle.poly_catalogue.proofs.Covered.{covered}
use Rattle.poly_catalogue.proofs.covering.covering.Goals as goal

pub returns-clause-ok : goal.returns-clause-ok
returns-clause-ok c =
    let m = subst (λ (l : List ℕ). AreMarked c.args.listing.now l c.in_ok-marks.marks.items) c.deref.ensures.value c.in_ok-marks.ensures.ok in
    covered c.args.view.now c.args.item c.args.listing.now c.in_ok-numbers.numbers.items c.in_ok-marks.marks.items c.requires c.in_ok-numbers.ensures m
