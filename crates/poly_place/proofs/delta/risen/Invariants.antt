use Rattle.std.proofs.Common.{filter, map, take, ◌≡◌}
use Rattle.std.specs.Prelude.{nat_lt}
use Rattle.poly_tiling.specs.Puzzle.{bound_in}
use Rattle.poly_place.proofs.delta.risen.Given as goal

abbrev pub invariant-loop-bound : goal.invariant-loop-bound
invariant-loop-bound l = l.list.items ≡ map (λ b. b.item) (filter (λ b. nat_lt (bound_in l.from b.item (λ c. c.least)) b.least) (take l.bound-index l.to))
