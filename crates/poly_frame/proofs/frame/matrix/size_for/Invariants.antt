use Rattle.std.proofs.Common.{ltb, take, true, ◌^◌, ◌≡◌, ◌≤◌}
use Rattle.std.specs.List.{list_all}
use Rattle.poly_frame.proofs.frame.matrix.size_for.Given as goal

abbrev pub invariant-loop-p : goal.invariant-loop-p
invariant-loop-p l = record {
  above : list_all (λ p. ltb p l.size) (take l.p-index l.numbers) ≡ true;
  small : l.size ≤ 2 ^ 32;
}
