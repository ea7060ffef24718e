use Rattle.std.proofs.Common.{ap, arith, length, ◌-◌, ◌<◌, ◌∙◌}
use Rattle.std.proofs.lemmas.List.{get_or_read}
use Rattle.poly_frame.proofs.FrameQueries.{none_to, one_at}
use Rattle.poly_frame.proofs.frame.queries.first_open.Goals as goal

pub returns-in_default : goal.returns-in_default
returns-in_default c =
    let s = c.args.steps.now in
    let matrix = c.args.node.now.matrix.now in
    let t = c.args.node.now.table.now in
    let at = ap (λ n. n - matrix.width) (c.len.ensures ∙ s.live.ok.0) in
    none_to c.args.node.now.view.now c.args.node.now.trail.now c.args.node.now.base matrix t s.live.items s.have.items s.raised.items s.marks.items c.requires.kept c.deref.result.now c.deref-2.result.now _ c.deref.ensures.value c.deref-2.ensures.value at _ c.requires.kept.table.matrix.wide c.in_default.ensures

pub returns-then-j-len : goal.returns-then-j-len
returns-then-j-len c =
    let s = c.args.steps.now in
    let matrix = c.args.node.now.matrix.now in
    let t = c.args.node.now.table.now in
    let ns = matrix.numbers.items in
    let at = ap (λ n. n - matrix.width) (c.len.ensures ∙ s.live.ok.0) in
    let low : c.in-Some.j < length ns = omega (arith, c.if-j-len.true, c.len-2.ensures, matrix.numbers.ok.0) in
    one_at c.args.node.now.view.now c.args.node.now.trail.now c.args.node.now.base matrix t s.live.items s.have.items s.raised.items s.marks.items c.requires.kept c.deref.result.now c.deref-2.result.now _ c.deref.ensures.value c.deref-2.ensures.value at c.in-Some.j c.index.result.now low c.in-Some.ensures.is
    (get_or_read ns c.in-Some.j c.index.result.now low c.index.ensures 0)

pub returns-else-j-len : goal.returns-else-j-len
returns-else-j-len c =
    let s = c.args.steps.now in
    let matrix = c.args.node.now.matrix.now in
    let t = c.args.node.now.table.now in
    let at = ap (λ n. n - matrix.width) (c.len.ensures ∙ s.live.ok.0) in
    none_to c.args.node.now.view.now c.args.node.now.trail.now c.args.node.now.base matrix t s.live.items s.have.items s.raised.items s.marks.items c.requires.kept c.deref.result.now c.deref-2.result.now _ c.deref.ensures.value c.deref-2.ensures.value at c.in-Some.j (omega (arith, c.if-j-len.false, c.len-2.ensures, matrix.numbers.ok.0)) c.in-Some.ensures.before
