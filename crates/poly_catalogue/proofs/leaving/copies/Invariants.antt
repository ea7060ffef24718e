use Rattle.std.proofs.Common.{Bool, List, filter, take, ◌≡◌, ℕ}
use Rattle.poly_catalogue.specs.Listed.{AreMarkedBy}
use Rattle.poly_catalogue.proofs.leaving.copies.Given as goal

abbrev pub invariant-loop-index : goal.invariant-loop-index
invariant-loop-index l = (p : List ℕ → Bool) → AreMarkedBy p l.tilings l.marks → l.list.items ≡ filter p (take l.index l.tilings)
