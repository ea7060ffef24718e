use Rattle.std.proofs.Common.{drop, subst, take, ◌++◌, ◌+◌}
use Rattle.std.proofs.lemmas.Result.{err_from_is_err_and}
use Rattle.poly_desk.specs.Receipts.{IsBadReceipt, all_of}
use Rattle.poly_desk.specs.Ticks.{Taken}
use Rattle.poly_desk.proofs.Ticking.{all_push, all_split}
use Rattle.poly_desk.proofs.tick.check_receipts.Goals as goal

pub returns-in_err-tick_list-clause-why : goal.returns-in_err-tick_list-clause-why
returns-in_err-tick_list-clause-why c =
    let p = err_from_is_err_and c.from_residual.result c.from_residual.ensures.1 in
    let i = c.loop-list.list-index in
    let vs = c.args.receipts.now in
    let v = c.list-item.result in
    let bad = c.in_err-tick_list.ensures.why (all_of (take i vs)) (all_of (drop (i + 1) vs)) c.loop-list.invariant.taken in
    rw (p.1, p.2) (subst (λ z. IsBadReceipt c.args.book.now z c.in_err-tick_list.field-0.0) (all_split vs i v c.loop-list-test.true c.list-item.is)
    (subst (λ z. IsBadReceipt c.args.book.now ((all_of (take i vs) ++ z) ++ all_of (drop (i + 1) vs)) c.in_err-tick_list.field-0.0) c.deref.ensures.value bad))

pub loop-list-preserved : goal.loop-list-preserved
loop-list-preserved c =
    let i = c.loop-list.list-index in
    let vs = c.args.receipts.now in
    let v = c.list-item.result in
    let more = c.in_ok-tick_list.ensures.ok (all_of (take i vs)) c.loop-list.invariant.taken in
    record {
      flags = c.in_ok-tick_list.ensures.flags;
      taken = subst (λ z. Taken c.args.book.now c.tick_list.new.marks z) (all_push vs i v c.loop-list-test.true c.list-item.is)
          (subst (λ z. Taken c.args.book.now c.tick_list.new.marks (all_of (take i vs) ++ z)) c.deref.ensures.value more);
    }
