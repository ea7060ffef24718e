use Rattle.std.proofs.Common.{Bool, [], ap, arith, get_or, map, not, rules, subst, sym, take, true, ◌++◌, ◌∙◌, ◌∷◌, ◌≡◌}
use Rattle.std.proofs.lemmas.List.{map-append, take_all, take_more}
use Rattle.std.specs.List.{list_any}
use Rattle.poly_atom.specs.Hopeless.{hopeless}
use Rattle.poly_tasks.specs.declared.task.Pending.{Pending}
use Rattle.poly_tasks.specs.Touching.{IsTold, touches}
use Rattle.poly_tasks.proofs.ReachedTasks.{far_more}
use Rattle.poly_tasks.proofs.Touched.{told_at, touched_at}
use Rattle.poly_tasks.specs.Meaning.{IsTask, own_of}
use Rattle.poly_tasks.proofs.Held.{task_at}
use Rattle.poly_tasks.proofs.survey.surviving.Goals as goal

pub ends_by-requires-clause-own : goal.ends_by-requires-clause-own
ends_by-requires-clause-own c = (subst (λ p. IsTask c.args.log.now p) (sym c.index-tasks-i.is) (task_at c.args.log.now c.args.tasks.now c.loop-i.i c.index-tasks-i.result c.requires.tasks c.loop-i-test.true)).own

pub ends_by-requires-clause-touched : goal.ends_by-requires-clause-touched
ends_by-requires-clause-touched c = λ h.
    subst (λ (p : Pending). list_any (λ a. touches c.args.touch.now a) (own_of c.args.log.now p.own) ≡ true) (sym c.index-tasks-i.is)
    (touched_at c.args.touch.now c.args.log.now c.args.tasks.now c.loop-i.i c.index-tasks-i.result c.requires.touched c.loop-i-test.true (subst (λ (p : Pending). hopeless c.args.touch.now.view.now (own_of c.args.log.now p.own) ≡ true) c.index-tasks-i.is h))

pub ends_by-requires-clause-told : goal.ends_by-requires-clause-told
ends_by-requires-clause-told c =
    subst (λ (p : Pending). IsTold c.args.touch.now c.args.log.now p.own) (sym c.index-tasks-i.is) (told_at c.args.touch.now c.args.log.now c.args.tasks.now c.loop-i.i c.index-tasks-i.result c.requires.told c.loop-i-test.true)

pub loop-i-init : goal.loop-i-init
loop-i-init c = record {
  flags = c.new-flags.ensures.items;
  ready = c.new-survey.ensures c.args.touch.now c.args.log.now;
  far = λ j l. absurd (omega (arith, l));
}

pub loop-i-preserved : goal.loop-i-preserved
loop-i-preserved c =
    let ps = c.args.tasks.now in
    let i = c.loop-i.i in
    let d = c.index-tasks-i.result in
    let F : Pending → Bool = λ p. not (hopeless c.args.touch.now.view.now (own_of c.args.log.now p.own)) in
    let one : not c.in_ok-ends.ends ≡ F (get_or ps i d) = ap not c.in_ok-ends.ensures.ok ∙ ap F c.index-tasks-i.is in
    record {
      flags = c.in_ok-push.ensures.items ∙ (λ k. c.loop-i.invariant.flags k ++ one k ∷ []) ∙ sym (ap (λ xs. map F xs) (take_more ps i d c.loop-i-test.true) ∙ map-append F (take i ps) (get_or ps i d ∷ []));
      ready = c.in_ok-ends.ensures.ready;
      far = far_more c.args.reach.now i c.loop-i.far c.max-far.result c.loop-i.invariant.far (search rules) (search rules);
    }

pub returns-clause-ok : goal.returns-clause-ok
returns-clause-ok c = c.loop-i.invariant.flags ∙ ap (λ xs. map (λ p. not (hopeless c.args.touch.now.view.now (own_of c.args.log.now p.own))) xs) (take_all c.loop-i.i c.args.tasks.now c.loop-i-test.false)

pub ends_by-requires-clause-reached : goal.ends_by-requires-clause-reached
ends_by-requires-clause-reached c = λ h.
    let i = c.loop-i.i in
    let d = c.index-tasks-i.result in
    let there = c.requires.reached i d c.loop-i-test.true (subst (λ (p : Pending). hopeless c.args.touch.now.view.now (own_of c.args.log.now p.own) ≡ true) c.index-tasks-i.is h) in
    let far = far_more c.args.reach.now i c.loop-i.far c.max-far.result c.loop-i.invariant.far (search rules) (search rules) there.0 (omega (arith, there.1)) in
    omega (arith, there.2, far, ap (λ (p : Pending). p.number) c.index-tasks-i.is)

pub ends_by-requires-clause-ready : goal.ends_by-requires-clause-ready
ends_by-requires-clause-ready c = c.loop-i.invariant.ready
