use Rattle.std.proofs.Common.{arith, length, sym, ◌<◌, ◌∙◌}
use Rattle.poly_frame.proofs.FrameQueries.{due_says, none_short}
use Rattle.poly_frame.proofs.frame.queries.next_unnoted.Goals as goal

pub returns : goal.returns
returns c =
    let s = c.args.steps.now in
    none_short c.args.node.now.view.now c.args.node.now.trail.now c.args.node.now.base c.args.node.now.matrix.now c.args.node.now.table.now s.live.items s.have.items s.raised.items s.marks.items c.requires.kept c.loop-b.b (omega (arith, c.loop-b-test.false, c.min-b-end.ensures, c.len.ensures, s.have.ok.0)) c.loop-b.invariant

pub returns-then-is_below : goal.returns-then-is_below
returns-then-is_below c =
    let s = c.args.steps.now in
    let K = c.requires.kept in
    let b = c.loop-b.b in
    let low : b < length c.args.node.now.view.now.bounds = omega (arith, c.loop-b-test.true, c.min-b-end.ensures, c.len.ensures, s.have.ok.0, K.have_len) in
    (low, due_says c.args.node.now.view.now c.args.node.now.trail.now c.args.node.now.base c.args.node.now.matrix.now c.args.node.now.table.now s.live.items s.have.items s.raised.items s.marks.items K b low ∙ sym c.is_below.ensures ∙ c.if-is_below.true)
