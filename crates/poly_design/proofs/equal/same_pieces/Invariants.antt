use Rattle.std.proofs.Common.{◌≡◌}
use Rattle.poly_design.proofs.equal.same_pieces.Given as goal

abbrev pub invariant-loop-name : goal.invariant-loop-name
invariant-loop-name l = record {
  from : l.a.entries ≡ l.b.entries → l.name-iterator ≡ l.others;
  to : l.name-iterator ≡ l.others → l.a.entries ≡ l.b.entries;
}
