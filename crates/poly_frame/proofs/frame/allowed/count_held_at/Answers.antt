use Rattle.std.proofs.Common.{ap, arith, not, sym, ◌&&◌, ◌∙◌, ◌≡◌}
use Rattle.std.proofs.lemmas.List.{get_or_read}
use Rattle.poly_tiling.specs.Lists.{mem, tally}
use Rattle.poly_tiling.specs.Puzzle.{has_item}
use Rattle.poly_frame.specs.Open.{ruled_out}
use Rattle.poly_frame.proofs.FrameArms.{held_counted, held_says, tally_le}
use Rattle.poly_frame.proofs.frame.allowed.count_held_at.Goals as goal

pub returns-then-sure-clause-value : goal.returns-then-sure-clause-value
returns-then-sure-clause-value c =
    let s = c.args.steps.now in
    let v = c.args.node.now.view.now in
    let A = c.args.node.now.trail.now in
    let i = c.args.item.now in
    get_or_read s.have.items c.args.b c.index.result.now (omega (arith, c.requires.row, c.requires.kept.have_len)) c.index.ensures 0
    ∙ held_says v A c.args.node.now.base c.args.node.now.matrix.now c.args.node.now.table.now s.live.items s.have.items s.raised.items s.marks.items c.requires.kept i c.args.b c.requires.row c.requires.same (c.requires.sure c.if-sure.true)
    ∙ ap (λ xs. tally (λ p. has_item v p i && (mem v.live p && not (ruled_out v A p))) xs) (sym c.requires.members)

pub returns-then-sure-clause-few : goal.returns-then-sure-clause-few
returns-then-sure-clause-few c =
    let s = c.args.steps.now in
    let v = c.args.node.now.view.now in
    let A = c.args.node.now.trail.now in
    let i = c.args.item.now in
    let value : c.index.result.now ≡ tally (λ p. has_item v p i && (mem v.live p && not (ruled_out v A p))) c.args.members.now =
    get_or_read s.have.items c.args.b c.index.result.now (omega (arith, c.requires.row, c.requires.kept.have_len)) c.index.ensures 0
    ∙ held_says v A c.args.node.now.base c.args.node.now.matrix.now c.args.node.now.table.now s.live.items s.have.items s.raised.items s.marks.items c.requires.kept i c.args.b c.requires.row c.requires.same (c.requires.sure c.if-sure.true)
    ∙ ap (λ xs. tally (λ p. has_item v p i && (mem v.live p && not (ruled_out v A p))) xs) (sym c.requires.members) in
    omega (arith, value, tally_le (λ p. has_item v p i && (mem v.live p && not (ruled_out v A p))) c.args.members.now)

pub returns-clause-value : goal.returns-clause-value
returns-clause-value c = c.count_held.ensures.value ∙ held_counted c.args.node.now.view.now c.args.node.now.trail.now c.args.item.now c.args.members.now c.requires.members
