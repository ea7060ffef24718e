use Rattle.std.proofs.Common.{ap, sym, ◌∙◌}
use Rattle.poly_tiling.specs.Lists.{mem}
use Rattle.poly_atom.specs.declared.atom.Atom.TheVariants.{Has}
use Rattle.poly_frame.proofs.FrameConsistent.{consistent_again, consistent_more, consistent_pick}
use Rattle.poly_frame.proofs.frame.consistent.taken.Goals as goal
use Rattle.poly_frame.proofs.frame.consistent.taken.Goals.{else-opened, then-opened}

pub returns-then-has_number : goal.returns-then-has_number
returns-then-has_number c =
    let v = c.args.node.now.view.now in
    let A = c.args.node.now.trail.now in
    let p = c.args.number in
    consistent_more v A c.args.node.now.given c.args.consistent (Has p) c.requires.shows c.if-consistent-node.false c.requires.low (λ s. elim c.if-opened.branch [
      | then-opened w ↦ let o = c.requires.opened w.if-opened.true in consistent_pick v A p s o.0 o.1
      | else-opened w ↦ consistent_again v A p s (ap (λ xs. mem xs p) (sym c.requires.members) ∙ sym w.has_number.ensures ∙ sym w.value-is ∙ c.if-has_number.true)
    ])
