use Rattle.std.proofs.Common.{length, ◌≡◌, ℕ}
use Rattle.poly_catalogue.specs.Index.{Agree}
use Rattle.poly_catalogue.specs.Rows.{at, row, span}
use Rattle.poly_catalogue.proofs.entries.add_entries.Given as goal

abbrev pub invariant-loop-nth : goal.invariant-loop-nth
invariant-loop-nth l = record {
  even : length l.positions ≡ length l.fn.positions;
  wide : (a : ℕ) → length (row l.positions a) ≡ length (row l.fn.positions a);
  agree : Agree (span (at l.tilings) l.tiling 0 l.nth) (at l.positions) (at l.rows);
}
