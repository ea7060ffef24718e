use Rattle.std.proofs.Common.{get_or, true, ℕ, ◌<◌, ◌≡◌}
use Rattle.poly_frame.specs.FrameItems.{item_at}
use Rattle.poly_frame.specs.FrameConsistent.{fits_at}
use Rattle.poly_frame.proofs.frame.consistent.all_fit.Given as goal

abbrev pub invariant-loop-b : goal.invariant-loop-b
invariant-loop-b l = (b : ℕ) → b < l.b → fits_at (item_at l.bounds b) (get_or l.mosts b 0) (get_or l.have b 0) ≡ true
