use Rattle.std.proofs.Common.{take}
use Rattle.poly_desk.specs.Receipts.{all_of}
use Rattle.poly_desk.specs.Ticks.{HasFlags, Taken}
use Rattle.poly_desk.proofs.tick.check_receipts.Given as goal

abbrev pub invariant-loop-list : goal.invariant-loop-list
invariant-loop-list l = record {
  flags : HasFlags l.book l.marks;
  taken : Taken l.book l.marks (all_of (take l.list-index l.receipts));
}
