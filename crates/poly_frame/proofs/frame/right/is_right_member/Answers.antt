use Rattle.std.proofs.Common.{ap, sym, ◌∙◌}
use Rattle.poly_tiling.specs.Lists.{mem}
use Rattle.poly_frame.proofs.FrameConsistent.{member_right, outside_wrong, right_counted}
use Rattle.poly_frame.proofs.frame.right.is_right_member.Goals as goal

pub returns-then-not-has_number : goal.returns-then-not-has_number
returns-then-not-has_number c =
    let p = c.args.number in
    outside_wrong c.args.node.now.view.now c.args.node.now.trail.now p (ap (λ xs. mem xs p) (sym c.requires.members) ∙ sym c.has_number.ensures ∙ c.if-not-has_number.true) c.requires.closed

pub returns-then-sure : goal.returns-then-sure
returns-then-sure c =
    let p = c.args.number in
    sym (member_right c.args.node.now.view.now c.args.node.now.trail.now p (c.requires.sure c.if-sure.true) (ap (λ xs. mem xs p) (sym c.requires.members) ∙ sym c.has_number.ensures ∙ c.if-not-has_number.false))

pub returns : goal.returns
returns c =
    let p = c.args.number in
    c.is_sound.ensures ∙ right_counted c.args.node.now.view.now c.args.node.now.trail.now p (ap (λ xs. mem xs p) (sym c.requires.members) ∙ sym c.has_number.ensures ∙ c.if-not-has_number.false)
