use Rattle.std.proofs.Common.{length, take, ℕ, ◌≡◌, ◌≤◌}
use Rattle.poly_tiling.specs.Lists.{mem}
use Rattle.poly_atom.specs.Counted.{asked_count}
use Rattle.poly_atom.specs.Hopeless.{asked}
use Rattle.poly_atom.proofs.hopelessness.gather.Given as goal

abbrev pub invariant-loop-atom : goal.invariant-loop-atom
invariant-loop-atom l = record {
  fits : l.count ≤ length l.list;
  counted : l.count ≡ asked_count (take l.atom-index l.atoms);
  same : (p : ℕ) → mem (asked (take l.count l.list)) p ≡ mem (asked (take l.atom-index l.atoms)) p;
}
