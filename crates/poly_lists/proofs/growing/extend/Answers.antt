use Rattle.std.proofs.Common.{[], ap, rules, subst, sym, take, ◌++◌, ◌∙◌, ◌∷◌}
use Rattle.std.proofs.lemmas.List.{append-nil, append_assoc, take_all, take_more}
use Rattle.poly_lists.specs.Trails.{IsAt}
use Rattle.poly_lists.proofs.Linking.{extends_on, extends_self}
use Rattle.poly_lists.proofs.Trails.{at_over, trail_over}
use Rattle.poly_lists.proofs.growing.extend.Goals as goal

pub loop-atom-preserved : goal.loop-atom-preserved
loop-atom-preserved c =
    let old = c.args.last.now.items in
    let a = c.atom-item.result in
    let done = take c.loop-atom.atom-index c.args.atoms.now in
    let more = take_more c.args.atoms.now c.loop-atom.atom-index a (search rules) ∙ ap (λ x. done ++ x ∷ []) (sym c.atom-item.is) in
    let last = c.in_ok-push_atom.ensures.last ∙ ap (λ l. l ++ a ∷ []) c.loop-atom.invariant.2 ∙ append_assoc old done (a ∷ []) ∙ ap (λ l. old ++ l) (sym more) in
    (extends_on c.args.nodes.now c.loop-atom.nodes c.push_atom.new.nodes c.loop-atom.invariant.0 c.push_atom.ensures.grows, c.in_ok-push_atom.ensures.at, last)

pub returns-then-is_empty-clause-grows : goal.returns-then-is_empty-clause-grows
returns-then-is_empty-clause-grows c = extends_self c.args.nodes.now c.requires.linked

pub returns-then-is_empty-clause-trail : goal.returns-then-is_empty-clause-trail
returns-then-is_empty-clause-trail c = c.requires.at.begun

pub returns-then-is_empty-clause-at : goal.returns-then-is_empty-clause-at
returns-then-is_empty-clause-at c = c.requires.at

pub resume-requires-clause-linked : goal.resume-requires-clause-linked
resume-requires-clause-linked c = c.requires.linked

pub resume-requires-clause-before : goal.resume-requires-clause-before
resume-requires-clause-before c = c.requires.at.inside

pub returns-in_err-resume-clause-grows : goal.returns-in_err-resume-clause-grows
returns-in_err-resume-clause-grows c = c.resume.ensures.grows

pub returns-in_err-resume-clause-trail : goal.returns-in_err-resume-clause-trail
returns-in_err-resume-clause-trail c = trail_over c.args.nodes.now c.resume.new.nodes c.args.trail.now.items c.args.last.now.items c.resume.ensures.grows c.requires.at.begun

pub loop-atom-init : goal.loop-atom-init
loop-atom-init c = (
  c.resume.ensures.grows,
  at_over c.args.nodes.now c.resume.new.nodes c.args.trail.now.items c.args.last.now.items c.args.before c.resume.ensures.grows c.in_ok-resume.ensures.list c.requires.at,
  sym (append-nil c.args.last.now.items),
)

pub push_atom-requires-clause-linked : goal.push_atom-requires-clause-linked
push_atom-requires-clause-linked c = c.loop-atom.invariant.0.earlier

pub push_atom-requires-clause-at : goal.push_atom-requires-clause-at
push_atom-requires-clause-at c = c.loop-atom.invariant.1

pub returns-in_err-push_atom-clause-grows : goal.returns-in_err-push_atom-clause-grows
returns-in_err-push_atom-clause-grows c = extends_on c.args.nodes.now c.loop-atom.nodes c.push_atom.new.nodes c.loop-atom.invariant.0 c.push_atom.ensures.grows

pub returns-in_err-push_atom-clause-trail : goal.returns-in_err-push_atom-clause-trail
returns-in_err-push_atom-clause-trail c = c.push_atom.ensures.trail

pub returns-clause-grows : goal.returns-clause-grows
returns-clause-grows c = c.loop-atom.invariant.0

pub returns-clause-trail : goal.returns-clause-trail
returns-clause-trail c = c.loop-atom.invariant.1.begun

pub returns-clause-at : goal.returns-clause-at
returns-clause-at c = subst (λ n. IsAt c.loop-atom.nodes c.loop-atom.trail.items c.loop-atom.last.items n) (sym c.len.ensures) c.loop-atom.invariant.1

pub returns-clause-last : goal.returns-clause-last
returns-clause-last c = c.loop-atom.invariant.2 ∙ ap (λ l. c.args.last.now.items ++ l) (take_all c.loop-atom.atom-index c.args.atoms.now c.loop-atom-test.false)
