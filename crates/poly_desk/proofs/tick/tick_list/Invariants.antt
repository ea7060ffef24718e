use Rattle.std.proofs.Common.{List, take, ◌++◌}
use Rattle.poly_desk.specs.Ticks.{HasFlags, Taken}
use Rattle.poly_desk.specs.declared.receipt.Receipt.{Receipt}
use Rattle.poly_desk.proofs.tick.tick_list.Given as goal

abbrev pub invariant-loop-receipt : goal.invariant-loop-receipt
invariant-loop-receipt l = record {
  flags : HasFlags l.book l.marks;
  taken : (rs : List Receipt) → Taken l.book l.fn.marks rs → Taken l.book l.marks (rs ++ take l.receipt-index l.receipts);
}
