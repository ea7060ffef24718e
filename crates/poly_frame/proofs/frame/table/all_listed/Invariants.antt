use Rattle.std.proofs.Common.{take, true, ◌≡◌}
use Rattle.std.specs.List.{list_all, list_any}
use Rattle.poly_tiling.specs.Puzzle.{same_item}
use Rattle.poly_frame.specs.Plain.{of_asked}
use Rattle.poly_frame.proofs.frame.table.all_listed.Given as goal

abbrev pub invariant-loop-atom : goal.invariant-loop-atom
invariant-loop-atom l = list_all (of_asked (λ i. list_any (λ b. same_item b.item i) l.view.bounds)) (take l.atom-index l.atoms) ≡ true
