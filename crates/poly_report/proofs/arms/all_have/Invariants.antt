use Rattle.std.proofs.Common.{take, true, ◌≡◌}
use Rattle.std.specs.List.{list_all}
use Rattle.poly_tiling.specs.Puzzle.{has_item}
use Rattle.poly_report.proofs.arms.all_have.Given as goal

abbrev pub invariant-loop-a : goal.invariant-loop-a
invariant-loop-a l = list_all (λ a. has_item l.frame.scene a.placement l.item) (take l.a-index l.arms) ≡ true
