use Rattle.std.proofs.Common.{Bool, List, length, not, ◌≡◌, ℕ}
use Rattle.poly_catalogue.specs.Counts.{ArePassing}
use Rattle.poly_catalogue.proofs.Marked.{IsMarking}
use Rattle.poly_catalogue.proofs.marks.mark_outside.Given as goal

abbrev pub invariant-loop-index : goal.invariant-loop-index
invariant-loop-index l = record {
  long : length l.marks.items ≡ length l.initial.marks.items;
  marks : (p : List ℕ → Bool) (list : List (List ℕ)) → length l.initial.marks.items ≡ length list → ArePassing p list l.counts l.least l.most → IsMarking (λ T. not (p T)) list l.initial.marks.items l.marks.items l.index;
}
