use Rattle.std.proofs.Common.{◌≡◌, ◌+◌, ◌*◌, ◌-◌, ◌≤◌, ◌<◌, take, drop, length}
use Rattle.poly_report.specs.Gather.{lists}
use Rattle.poly_frame.specs.Walk.{backtrack_to}
use Rattle.poly_search.specs.Sweeps.{Partly}
use Rattle.poly_search.proofs.Swept.{behind}
use Rattle.poly_search.proofs.lister.+sweep.Given as goal

abbrev pub decreases-sweep : goal.decreases-sweep
decreases-sweep l = 6 * l.depth + 5

abbrev pub decreases-sweep_item : goal.decreases-sweep_item
decreases-sweep_item l = 6 * l.depth + 4

abbrev pub decreases-sweep_options : goal.decreases-sweep_options
decreases-sweep_options l = 6 * l.depth + 3

abbrev pub decreases-sweep_open : goal.decreases-sweep_open
decreases-sweep_open l = 6 * l.depth + 3

abbrev pub decreases-sweep_arm : goal.decreases-sweep_arm
decreases-sweep_arm l = 6 * l.depth + 2

abbrev pub decreases-sweep_below : goal.decreases-sweep_below
decreases-sweep_below l = 6 * l.depth + 1

-- the options before `at` were swept; if there is an option at `at`, the frame leaves out the options before it
abbrev pub invariant-sweep_options-loop-at : goal.invariant-sweep_options-loop-at
invariant-sweep_options-loop-at l = record {
  low : l.from ≤ l.at;
  path : l.at < length l.fn.list.options.items → l.frame ≡ record l.fn.frame { atoms = behind l.fn.frame.atoms (take (l.at - l.from) (drop l.from l.fn.list.options.items)) };
  front : backtrack_to l.frame (length l.fn.frame.atoms) ≡ l.fn.frame;
  room : l.at < length l.fn.list.options.items → length l.frame.atoms < l.end;
  options : l.list.options.items ≡ l.fn.list.options.items;
  left : lists l.list.rests.items ≡ lists l.fn.list.rests.items;
  swept : Partly l.fn.frame.scene l.fn.frame.atoms (behind l.fn.frame.atoms (take (l.at - l.from) (drop l.from l.fn.list.options.items))) l.fn.list.found.items l.list.found.items (lists l.fn.list.rests.items) (lists l.list.rests.items);
}

-- some placements were swept and left out
abbrev pub invariant-sweep_open-loop-placement : goal.invariant-sweep_open-loop-placement
invariant-sweep_open-loop-placement l = record {
  path : l.frame ≡ record l.fn.frame { atoms = l.frame.atoms };
  back : take (length l.fn.frame.atoms) l.frame.atoms ≡ l.fn.frame.atoms;
  room : length l.frame.atoms < l.end;
  options : l.list.options.items ≡ l.fn.list.options.items;
  left : lists l.list.rests.items ≡ lists l.fn.list.rests.items;
  swept : Partly l.fn.frame.scene l.fn.frame.atoms l.frame.atoms l.fn.list.found.items l.list.found.items (lists l.fn.list.rests.items) (lists l.list.rests.items);
}

abbrev pub decreases-sweep_open-loop-placement : goal.decreases-sweep_open-loop-placement
decreases-sweep_open-loop-placement l = l.end - length l.frame.atoms
