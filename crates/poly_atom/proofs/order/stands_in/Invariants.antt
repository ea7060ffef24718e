use Rattle.std.proofs.Common.{eqb, length, ◌-◌, ◌≤◌}
use Rattle.poly_atom.proofs.Halves.{IsWithin}
use Rattle.poly_atom.proofs.order.stands_in.Given as goal

abbrev pub invariant-loop-low : goal.invariant-loop-low
invariant-loop-low l = record {
  inside : l.high ≤ length l.numbers;
  within : IsWithin (λ p q. eqb p q) l.numbers l.number l.low l.high;
}

abbrev pub decreases-loop-low : goal.decreases-loop-low
decreases-loop-low l = l.high - l.low
