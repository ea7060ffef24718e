use Rattle.std.proofs.Common.{◌≡◌, length}
use Rattle.std.specs.Prelude.{sum_by, vec_capacity}
use Rattle.poly_cli.proofs.teamwork.deal.Given as goal

abbrev pub invariant-loop-made : goal.invariant-loop-made
invariant-loop-made g l = record {
  first : l.first.changes ≡ l.fn.first.changes;
  none : sum_by (λ p. p.changes) l.passes.items ≡ 0;
  count : length l.passes.items ≡ l.made;
  room : vec_capacity l.passes ≡ vec_capacity l.fn.passes;
}
