use Rattle.std.proofs.Common.{Global, Vec, ap, arith, get_or, length, sym, ◌<◌, ◌∙◌, ◌≡◌, ℕ, drop, take, ◌++◌, ◌+◌}
use Rattle.std.proofs.lemmas.Bool.{eq-eqb}
use Rattle.std.proofs.lemmas.List.{get_or_read}
use Rattle.poly_frame.proofs.FrameMembers.{without_at, without_none}
use Rattle.poly_frame.proofs.frame.members.take_number.Goals as goal

pub returns-then-number-index-clause-items : goal.returns-then-number-index-clause-items
returns-then-number-index-clause-items c =
    let xs = c.args.numbers.now.items in
    let k = c.loop-k.k in
    let same = ap (λ (z : Vec ℕ Global). z.items) c.loop-k.invariant.same in
    let low : k < length xs = omega (arith, c.loop-k-test.true, c.len-k-end.ensures, c.args.numbers.now.ok.0) in
    let read : c.index.result.now ≡ get_or xs k 0 = get_or_read c.loop-k.numbers.items k c.index.result.now (omega (arith, low, ap length same)) c.index.ensures 0 ∙ ap (λ ys. get_or ys k 0) same in
    c.remove.ensures.by_index.2 ∙ ap (λ ys. take k ys ++ drop (k + 1) ys) same ∙ sym (without_at c.args.number xs k low c.loop-k.invariant.before (eq-eqb _ _ (c.if-number-index.true ∙ read)))

pub returns-clause-items : goal.returns-clause-items
returns-clause-items c =
    ap (λ (z : Vec ℕ Global). z.items) c.loop-k.invariant.same ∙ sym (without_none c.args.number c.args.numbers.now.items (λ j h. c.loop-k.invariant.before j (omega (arith, h, c.loop-k-test.false, c.len-k-end.ensures, c.args.numbers.now.ok.0))))
