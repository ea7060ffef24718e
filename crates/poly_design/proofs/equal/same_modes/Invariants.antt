use Rattle.std.proofs.Common.{◌≡◌}
use Rattle.poly_design.proofs.equal.same_modes.Given as goal

abbrev pub invariant-loop-cell : goal.invariant-loop-cell
invariant-loop-cell l = record {
  from : l.a.entries ≡ l.b.entries → l.cell-iterator ≡ l.others;
  to : l.cell-iterator ≡ l.others → l.a.entries ≡ l.b.entries;
}
