use Rattle.poly_place.specs.Touched.{comes_before}
use Rattle.poly_place.proofs.Merging.{IsMerging}
use Rattle.poly_place.proofs.update.merged.Given as goal

abbrev pub invariant-loop-number : goal.invariant-loop-number
invariant-loop-number l = IsMerging (comes_before l.names) l.kept l.fresh l.number-index l.rest l.live.items
