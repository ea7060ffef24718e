use Rattle.std.proofs.Common.{◌≡◌, length}
use Rattle.poly_tests.proofs.crews.cards.Given as goal

abbrev pub invariant-loop-made : goal.invariant-loop-made
invariant-loop-made g l = length l.cards.items ≡ l.made
