use Rattle.std.proofs.Common.{ap, arith, get_or, max, ◌∙◌}
use Rattle.std.proofs.lemmas.List.{get_or_read}
use Rattle.poly_frame.proofs.FrameArms.{with_base_says}
use Rattle.poly_frame.proofs.frame.allowed.least_of_row.Goals as goal

pub returns : goal.returns
returns c =
    let s = c.args.steps.now in
    let matrix = c.args.node.now.matrix.now in
    let t = c.args.node.now.table.now in
    let K = c.requires.kept in
    let b = c.args.b in
    let least_there = get_or_read t.leasts.items b c.index.result.now (omega (arith, c.requires.row, K.table.leasts_len)) c.index.ensures 0 in
    let had = get_or_read s.have.items b c.index-2.result.now (omega (arith, c.requires.row, K.have_len)) c.index-2.ensures 0 in
    c.max.ensures ∙ ap (λ n. max n c.index-2.result.now) least_there ∙ ap (λ n. max (get_or t.leasts.items b 0) n) had
    ∙ with_base_says c.args.node.now.view.now c.args.node.now.trail.now c.args.node.now.base matrix t s.live.items s.have.items s.raised.items s.marks.items K c.args.item.now b c.requires.row c.requires.same
