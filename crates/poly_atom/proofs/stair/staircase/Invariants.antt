use Rattle.std.proofs.Common.{map, take, ◌≡◌}
use Rattle.poly_atom.specs.Stairs.{stairs}
use Rattle.poly_atom.proofs.stair.staircase.Given as goal

abbrev pub invariant-loop-i : goal.invariant-loop-i
invariant-loop-i l = map (λ w. w.items) l.all.items ≡ take l.i (stairs l.atoms)
