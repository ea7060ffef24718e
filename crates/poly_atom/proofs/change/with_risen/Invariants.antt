use Rattle.std.proofs.Common.{drop, length, ◌++◌, ◌≡◌, ◌≤◌}
use Rattle.poly_atom.specs.declared.atom.Atom.TheVariants.{AtMost}
use Rattle.poly_atom.proofs.Merge.{bound_below, rose, same_bound, walk}
use Rattle.poly_atom.proofs.change.with_risen.Given as goal

abbrev pub invariant-loop-bound : goal.invariant-loop-bound
invariant-loop-bound l = record {
  inside : l.at ≤ length l.new;
  walked : l.atoms.items ++ walk bound_below same_bound rose (λ b. AtMost b.item b.most) (drop l.bound-index l.old) (drop l.at l.new) ≡ l.initial.atoms.items ++ walk bound_below same_bound rose (λ b. AtMost b.item b.most) l.old l.new;
}
