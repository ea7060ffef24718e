use Rattle.std.proofs.Common.{nat_le, take, true, ◌≡◌}
use Rattle.std.specs.List.{list_all}
use Rattle.poly_frame.proofs.frame.table.are_single.Given as goal

abbrev pub invariant-loop-n : goal.invariant-loop-n
invariant-loop-n l = list_all (λ n. nat_le n 1) (take l.n-index l.entries) ≡ true
