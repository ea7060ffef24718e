use Rattle.std.proofs.Common.{drop, subst, sym, take, ◌++◌, ◌+◌}
use Rattle.std.proofs.lemmas.List.{take_all}
use Rattle.std.proofs.lemmas.Result.{err_from_is_err_and}
use Rattle.poly_desk.specs.Receipts.{IsBadReceipt}
use Rattle.poly_desk.specs.Ticks.{Taken}
use Rattle.poly_desk.proofs.Ticking.{bad_here, push_at, split_at, taken_more}
use Rattle.poly_desk.proofs.tick.tick_list.Goals as goal

pub returns-in_err-tick_off-clause-why : goal.returns-in_err-tick_off-clause-why
returns-in_err-tick_off-clause-why c =
    let p = err_from_is_err_and c.from_residual.result c.from_residual.ensures.1 in
    rw (p.1, p.2) (λ rs more t.
    let i = c.loop-receipt.receipt-index in
    let xs = c.args.receipts.now in
    let x = c.receipt-item.result in
    let bad = bad_here c.args.book.now c.loop-receipt.marks (rs ++ take i xs) (drop (i + 1) xs ++ more) x c.in_err-tick_off.field-0.0 (c.loop-receipt.invariant.taken rs t) c.in_err-tick_off.ensures.why in
    subst (λ z. IsBadReceipt c.args.book.now z c.in_err-tick_off.field-0.0) (sym (split_at rs xs more i x c.loop-receipt-test.true c.receipt-item.is)) bad)

pub loop-receipt-preserved : goal.loop-receipt-preserved
loop-receipt-preserved c = record {
  flags = c.in_ok-tick_off.ensures.flags;
  taken = λ rs t.
      let i = c.loop-receipt.receipt-index in
      let xs = c.args.receipts.now in
      let x = c.receipt-item.result in
      let more = taken_more c.args.book.now c.loop-receipt.marks c.tick_off.new.marks (rs ++ take i xs) x (c.loop-receipt.invariant.taken rs t) c.in_ok-tick_off.ensures.right c.in_ok-tick_off.ensures.first c.in_ok-tick_off.ensures.ticked in
      subst (λ z. Taken c.args.book.now c.tick_off.new.marks z) (push_at rs xs i x c.loop-receipt-test.true c.receipt-item.is) more;
}

pub returns-clause-ok : goal.returns-clause-ok
returns-clause-ok c = λ rs t.
    let i = c.loop-receipt.receipt-index in
    let xs = c.args.receipts.now in
    subst (λ z. Taken c.args.book.now c.loop-receipt.marks (rs ++ z)) (take_all i xs c.loop-receipt-test.false) (c.loop-receipt.invariant.taken rs t)
