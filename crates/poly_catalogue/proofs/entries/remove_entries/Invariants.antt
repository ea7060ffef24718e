use Rattle.std.proofs.Common.{length, ◌≡◌}
use Rattle.poly_catalogue.specs.Index.{Agree}
use Rattle.poly_catalogue.specs.Rows.{at, span}
use Rattle.poly_catalogue.proofs.entries.remove_entries.Given as goal

abbrev pub invariant-loop-nth : goal.invariant-loop-nth
invariant-loop-nth l = record { even : length l.positions ≡ length l.fn.positions; agree : Agree (span (at l.tilings) l.tiling l.nth l.count) (at l.positions) (at l.rows) }
