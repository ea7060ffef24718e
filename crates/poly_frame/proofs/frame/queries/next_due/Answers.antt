use Rattle.poly_frame.proofs.FrameQueries.{all_due, none_asked, none_else}
use Rattle.poly_frame.proofs.frame.queries.next_due.Goals as goal

pub returns-then-node : goal.returns-then-node
returns-then-node c =
    let s = c.args.steps.now in
    all_due c.args.node.now.view.now c.args.node.now.trail.now c.listed_due.result c.listed_due.ensures
    (none_else c.args.node.now.view.now c.args.node.now.trail.now c.args.node.now.base c.args.node.now.matrix.now c.args.node.now.table.now s.live.items s.have.items s.raised.items s.marks.items c.requires.kept c.if-node.true)

pub returns : goal.returns
returns c =
    all_due c.args.node.now.view.now c.args.node.now.trail.now c.listed_due-2.result c.listed_due-2.ensures
    (none_asked c.args.node.now.view.now c.args.node.now.trail.now c.args.members.now c.requires.members c.in_default.ensures)
