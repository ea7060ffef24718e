use Rattle.std.proofs.Common.{◌≤◌, length}
use Rattle.poly_report.specs.Gather.{lists}
use Rattle.poly_search.specs.Sweeps.{weights, all_tilings}
use Rattle.poly_search.specs.Whole.{SharedOut}
use Rattle.poly_search.proofs.whole.sweep_each.Given as goal

abbrev pub invariant-loop-next : goal.invariant-loop-next
invariant-loop-next l = record {
  shared : SharedOut l.view l.atoms l.list.found.items (lists l.list.rests.items);
  only : all_tilings l.view l.list.found.items;
  few : length l.list.found.items ≤ 1000000;
}

abbrev pub decreases-loop-next : goal.decreases-loop-next
decreases-loop-next l = weights l.view (lists l.list.rests.items)
