use Rattle.std.proofs.Common.{ap, length, map, not, subst, sym, ◌∙◌}
use Rattle.std.specs.List.Sorted.{IsNonDecreasingBy}
use Rattle.poly_atom.specs.Hopeless.{hopeless}
use Rattle.poly_tasks.specs.declared.task.Pending.{Pending}
use Rattle.poly_tasks.specs.Mapped.{under}
use Rattle.poly_tasks.specs.Meaning.{own_of}
use Rattle.poly_tasks.specs.Reaching.{AreEndsReached, IsReached}
use Rattle.poly_tasks.specs.Touching.{AreTold, AreTouched}
use Rattle.poly_tasks.proofs.Halving.{numbers_rise}
use Rattle.poly_tasks.proofs.ReachedTasks.{ends_reached}
use Rattle.poly_tasks.proofs.Touched.{all_told, all_touched}
use Rattle.poly_book.proofs.next_tasks.going_on.Goals as goal

pub new-requires : goal.new-requires
new-requires c = c.requires.made.0.delta.gone.given_out

pub reached-requires : goal.reached-requires
reached-requires c =
    let a = c.args.parts.now in
    record { rise = subst (λ ps. IsNonDecreasingBy (λ (p : Pending). p.number) ps) (sym c.deref.ensures.value) (numbers_rise 0 a.next a.log a.tasks.items c.requires.keeps.whole.rising) }

pub surviving-requires-clause-len : goal.surviving-requires-clause-len
surviving-requires-clause-len c = ap length c.deref-3.ensures.value ∙ c.in_ok-reach.ensures.len ∙ ap length (c.deref.ensures.value ∙ sym c.deref-2.ensures.value)

pub surviving-requires-clause-reached : goal.surviving-requires-clause-reached
surviving-requires-clause-reached c =
    let a = c.args.parts.now in
    let w = c.args.view.now in
    let t = c.in_ok-touch.touch in
    let e = c.in_ok-touch.ensures in
    let r = c.in_ok-reach.reach.items in
    let touched = all_touched t a.scene w c.args.delta.now c.args.change.now a.log a.tasks.items c.requires.made e.view e.delta e.item c.requires.keeps.alive in
    let all = ends_reached t w a.register.maps a.log a.tasks.items r e.view c.requires.noted touched (λ x h. subst (λ ps. IsReached r ps (λ n. under a.register.maps x n)) c.deref.ensures.value (c.in_ok-reach.ensures.ok x h)) in
    subst (λ v. AreEndsReached v a.log c.deref-2.result.now c.deref-3.result.now) (sym e.view)
    (subst (λ ps. AreEndsReached w a.log ps c.deref-3.result.now) (sym c.deref-2.ensures.value) (subst (λ y. AreEndsReached w a.log a.tasks.items y) (sym c.deref-3.ensures.value) all))

pub surviving-requires-clause-touched : goal.surviving-requires-clause-touched
surviving-requires-clause-touched c =
    let a = c.args.parts.now in
    let t = c.in_ok-touch.touch in
    let e = c.in_ok-touch.ensures in
    subst (λ ps. AreTouched t a.log ps) (sym c.deref-2.ensures.value) (all_touched t a.scene c.args.view.now c.args.delta.now c.args.change.now a.log a.tasks.items c.requires.made e.view e.delta e.item c.requires.keeps.alive)

pub surviving-requires-clause-told : goal.surviving-requires-clause-told
surviving-requires-clause-told c =
    let a = c.args.parts.now in
    let t = c.in_ok-touch.touch in
    let e = c.in_ok-touch.ensures in
    subst (λ ps. AreTold t a.log ps) (sym c.deref-2.ensures.value) (all_told t a.scene c.args.view.now c.args.delta.now c.args.change.now a.log a.tasks.items c.requires.made e.view e.delta e.item c.requires.keeps.alive)

pub returns-clause-ok : goal.returns-clause-ok
returns-clause-ok c =
    let log = c.args.parts.now.log in
    c.in_ok-flags.ensures.ok ∙ (λ i. map (λ p. not (hopeless (c.in_ok-touch.ensures.view i) (own_of log p.own))) (c.deref-2.ensures.value i))
