use Rattle.std.proofs.Common.{Some, arith, length, subst, sym}
use Rattle.poly_lists.specs.Trails.{IsTrail}
use Rattle.poly_lists.proofs.Linking.{extends_self, step_grows}
use Rattle.poly_lists.proofs.Trails.{pushed_at, trail_longer, trail_over}
use Rattle.poly_lists.proofs.growing.push_atom.Goals as goal

pub returns-in_err-extend_from_slice-clause-grows : goal.returns-in_err-extend_from_slice-clause-grows
returns-in_err-extend_from_slice-clause-grows c =
    let old = c.args.nodes.now in
    step_grows old old c.push.new.self (record { before = length old; atom = Some c.args.atom.now }) c.in_ok-push.ensures.ok (extends_self old c.requires.linked) (omega arith)

pub returns-in_err-extend_from_slice-clause-trail : goal.returns-in_err-extend_from_slice-clause-trail
returns-in_err-extend_from_slice-clause-trail c =
    let old = c.args.nodes.now in
    let new = c.push.new.self in
    let trail = c.args.trail.now.items in
    let grows = step_grows old old new (record { before = length old; atom = Some c.args.atom.now }) c.in_ok-push.ensures.ok (extends_self old c.requires.linked) (omega arith) in
    subst (λ l. IsTrail new trail l) (sym c.in_err-extend_from_slice.ensures.items) (trail_over old new trail c.args.last.now.items grows c.requires.at.begun)

pub returns-in_err-push-2-clause-grows : goal.returns-in_err-push-2-clause-grows
returns-in_err-push-2-clause-grows c =
    let old = c.args.nodes.now in
    step_grows old old c.push.new.self (record { before = length old; atom = Some c.args.atom.now }) c.in_ok-push.ensures.ok (extends_self old c.requires.linked) (omega arith)

pub returns-in_err-push-2-clause-trail : goal.returns-in_err-push-2-clause-trail
returns-in_err-push-2-clause-trail c =
    let old = c.args.nodes.now in
    let new = c.push.new.self in
    let trail = c.args.trail.now.items in
    let last = c.args.last.now.items in
    let grows = step_grows old old new (record { before = length old; atom = Some c.args.atom.now }) c.in_ok-push.ensures.ok (extends_self old c.requires.linked) (omega arith) in
    let longer = trail_longer new trail last c.extend_from_slice.new.self.items c.args.atom.now c.in_ok-extend_from_slice.ensures.items (trail_over old new trail last grows c.requires.at.begun) in
    subst (λ t. IsTrail new t c.extend_from_slice.new.self.items) (sym c.in_err-push-2.ensures.items) longer

pub returns-clause-grows : goal.returns-clause-grows
returns-clause-grows c =
    let old = c.args.nodes.now in
    step_grows old old c.push.new.self (record { before = length old; atom = Some c.args.atom.now }) c.in_ok-push.ensures.ok (extends_self old c.requires.linked) (omega arith)

pub returns-clause-trail : goal.returns-clause-trail
returns-clause-trail c =
    let at = pushed_at c.args.nodes.now c.push.new.self c.args.trail.now.items c.push-2.new.self.items c.args.last.now.items c.extend_from_slice.new.self.items c.args.atom.now c.len.result c.requires.linked c.in_ok-push.ensures.ok c.in_ok-extend_from_slice.ensures.items c.in_ok-push-2.ensures.items c.len.ensures c.requires.at in
    at.begun

pub returns-clause-at : goal.returns-clause-at
returns-clause-at c =
    pushed_at c.args.nodes.now c.push.new.self c.args.trail.now.items c.push-2.new.self.items c.args.last.now.items c.extend_from_slice.new.self.items c.args.atom.now c.len.result c.requires.linked c.in_ok-push.ensures.ok c.in_ok-extend_from_slice.ensures.items c.in_ok-push-2.ensures.items c.len.ensures c.requires.at
