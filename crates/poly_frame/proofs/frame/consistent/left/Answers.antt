use Rattle.std.proofs.Common.{ap, sym, ◌∙◌}
use Rattle.poly_tiling.specs.Lists.{mem}
use Rattle.poly_atom.specs.declared.atom.Atom.TheVariants.{Lacks}
use Rattle.poly_frame.proofs.FrameConsistent.{consistent_leave, consistent_more}
use Rattle.poly_frame.proofs.FramePicks.{open_base}
use Rattle.poly_frame.proofs.frame.consistent.left.Goals as goal
use Rattle.poly_frame.proofs.frame.consistent.left.Goals.{else-not-opened-via-else-not-opened, else-not-opened-via-then-not-opened+else-has_number}

pub returns-else-not-opened : goal.returns-else-not-opened
returns-else-not-opened c =
    let v = c.args.node.now.view.now in
    let A = c.args.node.now.trail.now in
    let p = c.args.number in
    consistent_more v A c.args.node.now.given c.args.consistent (Lacks p) c.requires.shows c.if-consistent-node.false c.requires.low (λ s. consistent_leave v A p s (elim c.else-not-opened.branch [
      | else-not-opened-via-then-not-opened+else-has_number w ↦ ap (λ xs. mem xs p) (sym c.requires.members) ∙ sym w.has_number.ensures ∙ w.if-has_number.false
      | else-not-opened-via-else-not-opened w ↦ open_base v A p (c.requires.opened w.if-not-opened.false).1
    ]))
