use Rattle.std.proofs.Common.{None, refl}
use Rattle.poly_lists.proofs.Linking.{resumed, step_grows, extends_self}
use Rattle.poly_lists.proofs.growing.resume.Goals as goal

pub returns-clause-grows : goal.returns-clause-grows
returns-clause-grows c =
    let old = c.args.nodes.now in
    step_grows old old c.push_back.new.self (record { before = c.args.before; atom = None }) c.in_ok-push_back.ensures.ok (extends_self old c.requires.linked) c.requires.before

pub returns-clause-list : goal.returns-clause-list
returns-clause-list c = resumed c.args.nodes.now c.push_back.new.self (record { before = c.args.before; atom = None }) c.in_ok-push_back.ensures.ok refl
