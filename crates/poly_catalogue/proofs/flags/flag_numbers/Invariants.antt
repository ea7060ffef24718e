use Rattle.std.proofs.Common.{false, get_or, length, take, ℕ, ◌<◌, ◌≡◌}
use Rattle.poly_tiling.specs.Lists.{mem}
use Rattle.poly_catalogue.proofs.flags.flag_numbers.Given as goal

abbrev pub invariant-loop-number : goal.invariant-loop-number
invariant-loop-number l = record {
  long : length l.flags.items ≡ length l.initial.flags.items;
  exact : (p : ℕ) → p < length l.flags.items → get_or l.flags.items p false ≡ mem (take l.number-index l.numbers) p;
}
