use Rattle.std.proofs.Common.{length, take, vec_capacity, ◌≡◌, ◌≤◌}
use Rattle.poly_frame.specs.FrameTable.{HaveShows}
use Rattle.poly_frame.specs.declared.frame.items.TheConstants.{PLACEMENT_ITEMS}
use Rattle.poly_frame.proofs.frame.table.counts_of.Given as goal

abbrev pub invariant-loop-p : goal.invariant-loop-p
invariant-loop-p l = record {
  len : length l.have.items ≡ length l.view.bounds;
  capacity : PLACEMENT_ITEMS ≤ vec_capacity l.noted;
  shown : HaveShows l.view (take l.p-index l.members) l.have.items;
}
