use Rattle.std.proofs.Common.{vec_len, ◌+◌, ◌-◌, ◌≡◌, ℕ}
use Rattle.poly_catalogue.specs.Rows.{at}
use Rattle.poly_catalogue.proofs.listing.reach.Given as goal

abbrev pub invariant-loop-alloc : goal.invariant-loop-alloc
invariant-loop-alloc l = (a b : ℕ) → at l.rows.items a b ≡ at l.initial.rows.items a b

abbrev pub decreases-loop-alloc : goal.decreases-loop-alloc
decreases-loop-alloc l = l.number + 1 - vec_len l.rows
