use Rattle.std.proofs.Common.{drop, eqb, length, ◌++◌, ◌≡◌, ◌≤◌}
use Rattle.poly_tiling.specs.Names.{below}
use Rattle.poly_atom.proofs.Merge.{is_missing, walk}
use Rattle.poly_atom.proofs.change.missing.Given as goal

abbrev pub invariant-loop-p : goal.invariant-loop-p
invariant-loop-p l = record {
  inside : l.at ≤ length l.others;
  walked :
      l.rest.items ++ walk (below l.view) (λ p q. eqb p q) is_missing (λ p. p) (drop l.p-index l.numbers) (drop l.at l.others)
      ≡ walk (below l.view) (λ p q. eqb p q) is_missing (λ p. p) l.numbers l.others;
}
