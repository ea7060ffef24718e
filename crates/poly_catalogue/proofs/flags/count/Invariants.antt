use Rattle.std.proofs.Common.{take, ◌≡◌, ◌≤◌}
use Rattle.poly_catalogue.specs.Flags.{flagged}
use Rattle.poly_catalogue.proofs.flags.count.Given as goal

abbrev pub invariant-loop-number : goal.invariant-loop-number
invariant-loop-number l = record { value : l.count ≡ flagged l.flags (take l.number-index l.numbers); most : l.count ≤ l.number-index }
