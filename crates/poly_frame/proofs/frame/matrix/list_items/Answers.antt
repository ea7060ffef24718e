use Rattle.std.proofs.Common.{ap, arith, length, length-append, sym, ◌++◌, ◌+◌, ◌∙◌, ◌∷◌, [], ◌≡◌, ◌≤◌}
use Rattle.poly_frame.proofs.Matrices.{lists_as, lists_more}
use Rattle.poly_frame.proofs.frame.matrix.list_items.Goals as goal

pub loop-p-preserved : goal.loop-p-preserved
loop-p-preserved c =
    let starts = c.loop-p.starts.items in
    let indices = c.loop-p.indices.items in
    let new = c.note_items.ensures.indices in
    let kept : c.reserve.new.self.items ≡ indices = c.reserve.ensures.items in
    let e2 : c.note_items.new.noted.items ≡ indices ++ new.0 = new.1 ∙ ap (λ xs. xs ++ new.0) kept in
    let short : length new.0 ≤ 17 = omega (arith, c.note_items.ensures.len, c.reserve.new.self.ok.0, c.note_items.new.noted.ok.0, ap length new.1, length-append c.reserve.new.self.items new.0) in
    let n : c.len-in-loop-p-2.result ≡ length (indices ++ new.0) = omega (arith, c.len-in-loop-p-2.ensures, c.note_items.new.noted.ok.0, ap length e2) in
    let e1 = c.push_reserved-in-loop-p.ensures.items ∙ ap (λ k. starts ++ k ∷ []) n in
    record {
      lists = lists_as c.args.view.now c.args.numbers.now _ _ _ _ (c.loop-p.p-index + 1) (sym e1) (sym e2) (lists_more c.args.view.now c.args.numbers.now starts indices new.0 c.loop-p.p-index c.loop-p.invariant.lists new.2 short);
      room = omega (arith, c.loop-p.invariant.room, c.push_reserved-in-loop-p.ensures.capacity);
    }
