use Rattle.poly_catalogue.specs.Index.{Agree}
use Rattle.poly_catalogue.specs.Rows.{at, half, over}
use Rattle.poly_catalogue.proofs.entries.reindex.Given as goal

abbrev pub invariant-loop-nth : goal.invariant-loop-nth
invariant-loop-nth l = Agree (half (at l.tilings) l.from l.to l.nth) (over (at l.positions) l.from l.to) (at l.rows)
