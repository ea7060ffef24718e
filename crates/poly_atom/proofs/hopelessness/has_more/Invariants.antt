use Rattle.std.proofs.Common.{drop, length, ◌+◌, ◌≡◌, ◌≤◌}
use Rattle.poly_tiling.specs.Puzzle.{count}
use Rattle.poly_atom.specs.Counted.{extra}
use Rattle.poly_atom.proofs.hopelessness.has_more.Given as goal

abbrev pub invariant-loop-i : goal.invariant-loop-i
invariant-loop-i l = record {
  counted : l.n + extra l.view (drop l.i l.atoms) l.item ≡ count l.view l.view.pins l.item + extra l.view l.atoms l.item;
  fits : l.n ≤ length l.view.pins + l.i;
}
