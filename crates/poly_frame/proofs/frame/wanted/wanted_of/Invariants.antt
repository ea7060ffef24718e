use Rattle.std.proofs.Common.{drop, length, ◌≡◌, ◌≤◌}
use Rattle.poly_frame.specs.FrameTable.{LeastsShow, MostsShow}
use Rattle.poly_frame.proofs.frame.wanted.wanted_of.Given as goal

abbrev pub invariant-loop-k : goal.invariant-loop-k
invariant-loop-k l = record {
  low : l.k ≤ length l.atoms;
  mosts_len : length l.mosts.items ≡ length l.view.bounds;
  leasts_len : length l.leasts.items ≡ length l.view.bounds;
  mosts : MostsShow l.view (drop l.k l.atoms) l.mosts.items;
  leasts : LeastsShow l.view (drop l.k l.atoms) l.leasts.items;
}

abbrev pub decreases-loop-k : goal.decreases-loop-k
decreases-loop-k l = l.k
