use Rattle.std.proofs.Common.{List, subst, sym, ℕ}
use Rattle.poly_tiling.specs.Lists.{mem}
use Rattle.poly_catalogue.specs.Counts.{ArePassing}
use Rattle.poly_catalogue.proofs.Raised.{has_between}
use Rattle.poly_catalogue.proofs.keep.drop_lacking.Goals as goal

pub returns-clause-keeps : goal.returns-clause-keeps
returns-clause-keeps c =
    let p = λ (T : List ℕ). mem T c.args.number in
    c.drop_outside.ensures p (subst (λ (l : List ℕ). ArePassing p c.args.listing.now l 1 255) (sym c.deref.ensures.value) (has_between c.args.listing.now c.args.number c.count_number.new.counts.items c.count_number.ensures.counts))
