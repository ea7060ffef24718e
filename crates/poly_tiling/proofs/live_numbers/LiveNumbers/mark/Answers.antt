use Rattle.std.proofs.Common.{rules}
use Rattle.poly_tiling.proofs.live_numbers.LiveNumbers.mark.Goals as goal

pub returns-in-Some : goal.returns-in-Some
returns-in-Some c = search rules
