use Rattle.std.proofs.Common.{List, filter, length, subst, ℕ}
use Rattle.poly_tiling.specs.Puzzle.{is_tiling}
use Rattle.poly_catalogue.specs.Listed.{AreSame}
use Rattle.poly_catalogue.proofs.Sums.{kept_catalogue, same_kept}
use Rattle.poly_catalogue.proofs.catalogue.Catalogue.keep_only.Goals as goal

pub invariant_of-self : goal.invariant_of-self
invariant_of-self c = kept_catalogue (is_tiling c.args.view.now) c.self.inside.listing c.keep.new.listing (length c.self.inside.flags.items) (length c.self.inside.counts.items) (length c.keep.new.counts.items) c.keep.ensures.keeps c.keep.ensures.long c.self.invariant

pub returns : goal.returns
returns c =
    let p = is_tiling c.args.view.now in
    subst (λ (l : List (List ℕ)). AreSame c.keep.new.listing (filter p l)) c.self.view_is (same_kept p c.self.inside.listing c.keep.new.listing c.keep.ensures.keeps)
