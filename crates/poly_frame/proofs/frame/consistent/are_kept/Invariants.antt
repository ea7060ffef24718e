use Rattle.std.proofs.Common.{not, take, true, ◌&&◌, ◌≡◌}
use Rattle.std.specs.List.{list_all, list_any}
use Rattle.poly_tiling.specs.Lists.{mem}
use Rattle.poly_atom.specs.Hopeless.{lacks}
use Rattle.poly_frame.proofs.frame.consistent.are_kept.Given as goal

abbrev pub invariant-loop-p : goal.invariant-loop-p
invariant-loop-p l = list_all (λ p. mem l.whole.numbers.items p && not (list_any (λ a. lacks a p) l.atoms)) (take l.p-index l.members) ≡ true
