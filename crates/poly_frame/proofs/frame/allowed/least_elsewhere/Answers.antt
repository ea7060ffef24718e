use Rattle.std.proofs.Common.{ap, ◌∙◌}
use Rattle.poly_tiling.specs.Puzzle.{count}
use Rattle.poly_frame.proofs.Elsewhere.{least_elsewhere}
use Rattle.poly_frame.proofs.frame.allowed.least_elsewhere.Goals as goal

pub returns-then-node : goal.returns-then-node
returns-then-node c =
    let s = c.args.steps.now in
    let v = c.args.node.now.view.now in
    let A = c.args.node.now.trail.now in
    c.count.ensures.value ∙ ap (λ xs. count v xs c.args.item.now) c.requires.members
    ∙ least_elsewhere v A c.args.node.now.base c.args.node.now.matrix.now c.args.node.now.table.now s.live.items s.have.items s.raised.items s.marks.items c.requires.kept c.args.item.now c.requires.none c.if-node.true
