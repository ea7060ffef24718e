use Rattle.std.proofs.Common.{◌≡◌, sum_by, take}
use Rattle.poly_desk.specs.Settling.{saturated}
use Rattle.poly_desk.proofs.shares.changes_of.Given as goal

abbrev pub invariant-loop-pass : goal.invariant-loop-pass
invariant-loop-pass g l = l.sum ≡ saturated (sum_by (λ p. p.changes) (take l.pass-index l.passes))
