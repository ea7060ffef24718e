use Rattle.std.proofs.Common.{nat_lt, not, take, true, ◌||◌, ◌≡◌}
use Rattle.std.specs.List.{list_all, list_any}
use Rattle.poly_tiling.specs.Puzzle.{count, same_item}
use Rattle.poly_frame.specs.Open.{least_at}
use Rattle.poly_frame.specs.Plain.{of_asked}
use Rattle.poly_frame.proofs.plain.due_elsewhere.Given as goal

abbrev pub invariant-loop-atom : goal.invariant-loop-atom
invariant-loop-atom l = list_all (of_asked (λ i. list_any (λ b. same_item b.item i) l.view.bounds || not (nat_lt (count l.view l.members i) (least_at l.view l.atoms i)))) (take l.atom-index l.atoms) ≡ true
