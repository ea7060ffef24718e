use Rattle.poly_atom.specs.Hopeless.{base}
use Rattle.poly_frame.specs.FrameItems.{item_of}
use Rattle.poly_frame.proofs.FrameArms.{short_none}
use Rattle.poly_frame.proofs.FrameQueries.{none_else}
use Rattle.poly_frame.proofs.FrameConsistent.{consistent_family, consistent_top}
use Rattle.poly_frame.proofs.frame.queries.judge.Goals as goal

pub returns-then-consistent-node : goal.returns-then-consistent-node
returns-then-consistent-node c =
    let s = c.args.steps.now in
    let v = c.args.node.now.view.now in
    let A = c.args.node.now.trail.now in
    let K = c.requires.kept in
    consistent_family v A (consistent_top v A c.args.node.now.given c.args.consistent c.requires.consistent c.requires.low c.if-consistent-node.true)
    (none_else v A c.args.node.now.base c.args.node.now.matrix.now c.args.node.now.table.now s.live.items s.have.items s.raised.items s.marks.items K c.if-node.true c.in_default.ensures)

pub returns-in-Some : goal.returns-in-Some
returns-in-Some c =
    let v = c.args.node.now.view.now in
    let A = c.args.node.now.trail.now in
    short_none v A (base v A) (item_of v c.in-Some.field-0) c.in-Some.ensures.1
