use Rattle.std.proofs.Common.{cond, eqb, length, ltb, ◌&&◌, ◌≡◌, ℕ}
use Rattle.poly_catalogue.specs.Rows.{at, row}
use Rattle.poly_catalogue.proofs.positions.Positions.copy_row.Given as goal

abbrev pub invariant-loop-nth : goal.invariant-loop-nth
invariant-loop-nth l = record {
  even : length l.self ≡ length l.fn.self;
  wide : (a : ℕ) → length (row l.self a) ≡ length (row l.fn.self a);
  over : (a b : ℕ) → at l.self a b ≡ cond (eqb a l.to && ltb b l.nth) (at l.fn.self l.from b) (at l.fn.self a b);
}
