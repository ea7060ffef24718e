use Rattle.std.proofs.Common.{ℕ, eqb, false, get_or, length, take, ◌&&◌, ◌||◌, ◌≡◌}
use Rattle.poly_browse.specs.Lines.{in_mask}
use Rattle.poly_browse.proofs.covers.mark_all.Given as goal

abbrev pub invariant-loop-at : goal.invariant-loop-at
invariant-loop-at l = record {
  marked : (n t : ℕ) → in_mask l.masks.items n t ≡ (in_mask l.fn.masks.items n t || (get_or (take l.at l.flags) n false && eqb l.bit t));
  long : length l.masks.items ≡ length l.fn.masks.items;
}
