use Rattle.std.proofs.Common.{ap, subst, sym, false, true, ℕ, ◌*◌, ◌+◌, ◌-◌, ◌∙◌, ◌≡◌}
use Rattle.std.proofs.lemmas.Bool.{both_ways, false_from_ne_true}
use Rattle.poly_tiling.specs.Lists.{mem}
use Rattle.poly_frame.specs.Bits.{has_bit}
use Rattle.poly_frame.specs.Open.{open_in}
use Rattle.poly_frame.proofs.FrameQueries.{open_first, open_one, top_row}
use Rattle.poly_frame.proofs.frame.queries.stands_open.Goals as goal

pub returns-in-Some-clause-open : goal.returns-in-Some-clause-open
returns-in-Some-clause-open c = λ y.
    let s = c.args.steps.now in
    let matrix = c.args.node.now.matrix.now in
    let t = c.args.node.now.table.now in
    let v = c.args.node.now.view.now in
    let A = c.args.node.now.trail.now in
    let K = c.requires.kept in
    let j = c.in-Some.j in
    let at = ap (λ n. n - matrix.width) (c.len.ensures ∙ s.live.ok.0) in
    let opened = sym (top_row v A c.args.node.now.base matrix t s.live.items s.have.items s.raised.items s.marks.items K (c.len.result - matrix.width) j at c.in-Some.ensures.0) ∙ ap (λ ws. has_bit ws (64 * (c.len.result - matrix.width) + j)) (sym c.deref.ensures.value) ∙ sym c.has.ensures ∙ y in
    subst (λ (p : ℕ). (mem v.live p ≡ true) × (open_in v A p ≡ true)) c.in-Some.ensures.1 (open_one v A c.args.node.now.base matrix t s.live.items s.have.items s.raised.items s.marks.items K j c.in-Some.ensures.0 opened)

pub returns-in-Some-clause-closed : goal.returns-in-Some-clause-closed
returns-in-Some-clause-closed c = λ y _.
    let s = c.args.steps.now in
    let matrix = c.args.node.now.matrix.now in
    let t = c.args.node.now.table.now in
    let v = c.args.node.now.view.now in
    let A = c.args.node.now.trail.now in
    let j = c.in-Some.j in
    let at = ap (λ n. n - matrix.width) (c.len.ensures ∙ s.live.ok.0) in
    let closed = sym (top_row v A c.args.node.now.base matrix t s.live.items s.have.items s.raised.items s.marks.items c.requires.kept (c.len.result - matrix.width) j at c.in-Some.ensures.0) ∙ ap (λ ws. has_bit ws (64 * (c.len.result - matrix.width) + j)) (sym c.deref.ensures.value) ∙ sym c.has.ensures ∙ y in
    subst (λ (p : ℕ). open_in v A p ≡ false) c.in-Some.ensures.1 closed

pub returns-in-None-clause-closed : goal.returns-in-None-clause-closed
returns-in-None-clause-closed c = λ _ m.
    let s = c.args.steps.now in
    let matrix = c.args.node.now.matrix.now in
    false_from_ne_true _ (λ o. both_ways (mem matrix.numbers.items c.args.number) c.in-None.ensures (open_first c.args.node.now.view.now c.args.node.now.trail.now c.args.node.now.base matrix c.args.node.now.table.now s.live.items s.have.items s.raised.items s.marks.items c.requires.kept c.args.number m o))
