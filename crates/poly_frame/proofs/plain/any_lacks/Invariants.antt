use Rattle.std.proofs.Common.{false, take, ◌≡◌}
use Rattle.std.specs.List.{list_any}
use Rattle.poly_atom.specs.Hopeless.{lacks}
use Rattle.poly_frame.proofs.plain.any_lacks.Given as goal

abbrev pub invariant-loop-atom : goal.invariant-loop-atom
invariant-loop-atom l = list_any (λ a. lacks a l.number) (take l.atom-index l.atoms) ≡ false
