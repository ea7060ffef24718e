use Rattle.std.proofs.Common.{drop, ◌≡◌}
use Rattle.poly_tiling.specs.Names.{below}
use Rattle.poly_atom.specs.Merge.{behind}
use Rattle.poly_atom.proofs.order.skip_numbers.Given as goal

abbrev pub invariant-loop-at : goal.invariant-loop-at
invariant-loop-at l = behind (λ p. below l.view p l.number) (drop l.from l.numbers) ≡ behind (λ p. below l.view p l.number) (drop l.at l.numbers)
