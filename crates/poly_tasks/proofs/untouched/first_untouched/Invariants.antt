use Rattle.std.proofs.Common.{false, take, ◌≡◌}
use Rattle.std.specs.List.{list_any}
use Rattle.poly_tasks.specs.Touching.{touches}
use Rattle.poly_tasks.proofs.untouched.first_untouched.Given as goal

abbrev pub invariant-loop-count : goal.invariant-loop-count
invariant-loop-count l = list_any (λ a. touches l.touch a) (take l.count l.guards) ≡ false
