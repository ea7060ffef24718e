use Rattle.std.proofs.Common.{ap, ◌-◌, ◌∙◌, ◌≡◌}
use Rattle.std.specs.List.{filter}
use Rattle.std.proofs.lemmas.Result.{IfOk-weaker}
use Rattle.poly_frame.specs.FrameTable.{HasOpen}
use Rattle.poly_frame.specs.Open.{open_in}
use Rattle.poly_frame.proofs.FrameQueries.{open_first, top_bits, top_slice}
use Rattle.poly_frame.proofs.Matrices.{narrow_all}
use Rattle.poly_frame.proofs.frame.queries.narrowed_now.Goals as goal

pub narrowed-requires-clause-whole : goal.narrowed-requires-clause-whole
narrowed-requires-clause-whole c = c.requires.kept.table.matrix

pub narrowed-requires-clause-row : goal.narrowed-requires-clause-row
narrowed-requires-clause-row c =
    let s = c.args.steps.now in
    let matrix = c.args.node.now.matrix.now in
    let at = ap (λ n. n - matrix.width) (c.len.ensures ∙ s.live.ok.0) in
    top_slice c.args.node.now.view.now c.args.node.now.trail.now c.args.node.now.base matrix c.args.node.now.table.now s.live.items s.have.items s.raised.items s.marks.items c.requires.kept c.deref.result.now _ c.deref.ensures.value at

pub returns-clause-all : goal.returns-clause-all
returns-clause-all c =
    let v = c.args.node.now.view.now in
    let A = c.args.node.now.trail.now in
    let s = c.args.steps.now in
    let matrix = c.args.node.now.matrix.now in
    let K = c.requires.kept in
    let at = ap (λ n. n - matrix.width) (c.len.ensures ∙ s.live.ok.0) in
    IfOk-weaker c.narrowed.result _ (λ m. HasOpen v A m)
    (λ m numbers. λ q l o. narrow_all (λ p. open_in v A p) matrix.numbers.items m.numbers.items (numbers (λ p. open_in v A p) (λ j h. top_bits v A c.args.node.now.base matrix c.args.node.now.table.now s.live.items s.have.items s.raised.items s.marks.items K c.deref.result.now _ j c.deref.ensures.value at h)) q
    (open_first v A c.args.node.now.base matrix c.args.node.now.table.now s.live.items s.have.items s.raised.items s.marks.items K q l o) o)
    c.narrowed.ensures.numbers

pub returns-clause-numbers : goal.returns-clause-numbers
returns-clause-numbers c =
    let v = c.args.node.now.view.now in
    let A = c.args.node.now.trail.now in
    let s = c.args.steps.now in
    let matrix = c.args.node.now.matrix.now in
    let at = ap (λ n. n - matrix.width) (c.len.ensures ∙ s.live.ok.0) in
    IfOk-weaker c.narrowed.result _ (λ m. m.numbers.items ≡ filter (λ p. open_in v A p) matrix.numbers.items)
    (λ m numbers. numbers (λ p. open_in v A p) (λ j h. top_bits v A c.args.node.now.base matrix c.args.node.now.table.now s.live.items s.have.items s.raised.items s.marks.items c.requires.kept c.deref.result.now _ j c.deref.ensures.value at h))
    c.narrowed.ensures.numbers
