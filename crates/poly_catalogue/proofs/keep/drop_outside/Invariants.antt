use Rattle.poly_catalogue.proofs.Raised.{IsSweeping}
use Rattle.poly_catalogue.proofs.keep.drop_outside.Given as goal

abbrev pub invariant-loop-index : goal.invariant-loop-index
invariant-loop-index l = IsSweeping l.initial.listing l.listing l.counts l.least l.most l.index

abbrev pub decreases-loop-index : goal.decreases-loop-index
decreases-loop-index l = l.index
