use Rattle.std.proofs.Common.{ℕ, false, get_or, take, ◌≡◌}
use Rattle.poly_tiling.specs.Lists.{mem}
use Rattle.poly_browse.proofs.lines.flags_of.Given as goal

abbrev pub invariant-loop-number : goal.invariant-loop-number
invariant-loop-number l = (k : ℕ) → get_or l.flags.items k false ≡ mem (take l.number-index l.numbers) k
