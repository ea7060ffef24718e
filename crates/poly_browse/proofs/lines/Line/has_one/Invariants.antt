use Rattle.std.proofs.Common.{◌≡◌, false, get_or, take}
use Rattle.std.specs.List.{list_any}
use Rattle.poly_browse.proofs.lines.Line.has_one.Given as goal

abbrev pub invariant-loop-number : goal.invariant-loop-number
invariant-loop-number l = l.found ≡ list_any (λ n. get_or l.self.flags.items n false) (take l.number-index l.numbers)
