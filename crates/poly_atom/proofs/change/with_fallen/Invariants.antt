use Rattle.std.proofs.Common.{drop, length, ◌++◌, ◌≡◌, ◌≤◌}
use Rattle.poly_atom.specs.declared.atom.Atom.TheVariants.{AtLeast}
use Rattle.poly_atom.proofs.Merge.{bound_below, fell, same_bound, walk}
use Rattle.poly_atom.proofs.change.with_fallen.Given as goal

abbrev pub invariant-loop-bound : goal.invariant-loop-bound
invariant-loop-bound l = record {
  inside : l.at ≤ length l.new;
  walked : l.atoms.items ++ walk bound_below same_bound fell (λ b. AtLeast b.item b.least) (drop l.bound-index l.old) (drop l.at l.new) ≡ l.initial.atoms.items ++ walk bound_below same_bound fell (λ b. AtLeast b.item b.least) l.old l.new;
}
