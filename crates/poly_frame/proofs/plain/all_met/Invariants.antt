use Rattle.std.proofs.Common.{take, true, ◌≡◌}
use Rattle.poly_atom.specs.Atoms.{meets_all}
use Rattle.poly_frame.proofs.plain.all_met.Given as goal

abbrev pub invariant-loop-atom : goal.invariant-loop-atom
invariant-loop-atom l = meets_all l.view l.numbers (take l.atom-index l.atoms) ≡ true
