use Rattle.std.proofs.Common.{take, ◌≡◌}
use Rattle.poly_book.proofs.quiet.copies.Given as goal

abbrev pub invariant-loop-tiling : goal.invariant-loop-tiling
invariant-loop-tiling l = l.all.items ≡ take l.tiling-index l.tilings
