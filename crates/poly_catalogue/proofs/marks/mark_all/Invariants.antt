use Rattle.std.proofs.Common.{false, get_or, length, take, ◌||◌, ◌≡◌, ℕ}
use Rattle.poly_tiling.specs.Lists.{mem}
use Rattle.poly_catalogue.proofs.marks.mark_all.Given as goal

abbrev pub invariant-loop-index : goal.invariant-loop-index
invariant-loop-index l = record { long : length l.marks.items ≡ length l.initial.marks.items; set : (t : ℕ) → get_or l.marks.items t false ≡ (get_or l.initial.marks.items t false || mem (take l.index-index l.indices) t) }
