use Rattle.std.proofs.Common.{◌<◌}
use Rattle.std.specs.Option.{IfSome}
use Rattle.poly_tiling.specs.Puzzle.{count, least}
use Rattle.poly_tiling.proofs.lister.unmet_item.Given as goal

abbrev pub invariant-loop-b : goal.invariant-loop-b
invariant-loop-b l = IfSome l.best (λ i. count l.view l.chosen i < least l.view i)
