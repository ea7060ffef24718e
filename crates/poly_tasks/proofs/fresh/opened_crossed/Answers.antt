use Rattle.std.proofs.Common.{[], ap, arith, drop, inl, inr, length, map, refl, rules, subst, sym, ◌++◌, ◌+◌, ◌∷◌, ◌≡◌}
use Rattle.std.proofs.lemmas.List.{drop_all, length-map}
use Rattle.poly_atom.specs.Stairs.{stairs}
use Rattle.poly_tasks.specs.Meaning.{IsFrozen, frozen_of}
use Rattle.poly_tasks.specs.Opens.{Opening}
use Rattle.poly_tasks.specs.Shelves.{crossed}
use Rattle.poly_tasks.proofs.Held.{opening_end, opening_start}
use Rattle.poly_tasks.proofs.Holding.{frozen_at, frozen_head, opens_none}
use Rattle.poly_tasks.proofs.fresh.opened_crossed.Goals as goal

pub cross-crossed-requires-clause-start : goal.cross-crossed-requires-clause-start
cross-crossed-requires-clause-start c = c.loop-task.invariant.few

pub cross-crossed-requires-clause-edition : goal.cross-crossed-requires-clause-edition
cross-crossed-requires-clause-edition c = omega (arith, c.requires.log, c.requires.edition)

pub cross-crossed-requires-clause-frozen : goal.cross-crossed-requires-clause-frozen
cross-crossed-requires-clause-frozen c = subst (λ f. IsFrozen c.args.log.now f) (sym c.task-item.is) (frozen_at c.args.log.now c.args.frozen.now c.loop-task.task-index c.task-item.result c.requires.frozen c.loop-task-test.true)

pub cross-crossed-requires-clause-ready : goal.cross-crossed-requires-clause-ready
cross-crossed-requires-clause-ready c = c.loop-task.invariant.ready

pub returns-then-is_empty-clause-ok : goal.returns-then-is_empty-clause-ok
returns-then-is_empty-clause-ok c =
    let log = c.args.log.now in
    let g = c.args.guards.now in
    let none : length g ≡ 0 = search rules in
    rw c.new-tasks.ensures.items (opens_none (log ++ g ∷ []) c.args.next c.args.view.now (map (λ f. frozen_of log f) c.args.frozen.now) g none)

pub loop-task-init : goal.loop-task-init
loop-task-init c =
    let log = c.args.log.now in
    let g = c.args.guards.now in
    record {
      same = rw c.new-tasks.ensures.items (opening_start (log ++ g ∷ []) c.args.next c.args.view.now (crossed (map (λ f. frozen_of log f) c.args.frozen.now) (stairs g)));
      number = omega (arith, ap length c.new-tasks.ensures.items);
      few = c.requires.next;
      ready = c.in_ok-buffers.ensures.ready log;
    }

pub loop-task-preserved : goal.loop-task-preserved
loop-task-preserved c =
    let log = c.args.log.now in
    let g = c.args.guards.now in
    let w = c.args.view.now in
    let fs = c.args.frozen.now in
    let L = map (λ f. frozen_of log f) fs in
    let S = stairs g in
    let i = c.loop-task.task-index in
    let rest = crossed (drop (i + 1) L) S in
    let head = frozen_head log S fs i c.task-item.result (frozen_of log c.task-item.result) c.loop-task-test.true c.task-item.is refl in
    record {
      same = c.in-Ok.ensures.ok c.args.next (crossed L S) rest (subst (λ r. Opening (log ++ g ∷ []) c.args.next c.loop-task.number w (crossed L S) r c.loop-task.tasks.items) head c.loop-task.invariant.same);
      number = let a = c.loop-task.invariant.number in let b = c.in-Ok.ensures.count in omega (arith, a, b);
      few = c.in-Ok.ensures.few;
      ready = c.in-Ok.ensures.ready;
    }

pub returns-in-Err-clause-why : goal.returns-in-Err-clause-why
returns-in-Err-clause-why c =
    let log = c.args.log.now in
    let g = c.args.guards.now in
    let w = c.args.view.now in
    let fs = c.args.frozen.now in
    let L = map (λ f. frozen_of log f) fs in
    let S = stairs g in
    let i = c.loop-task.task-index in
    let rest = crossed (drop (i + 1) L) S in
    let head = frozen_head log S fs i c.task-item.result (frozen_of log c.task-item.result) c.loop-task-test.true c.task-item.is refl in
    elim c.in-Err.ensures.why [
      | inl m ↦ inl (m.0, m.1 c.args.next (crossed L S) rest c.loop-task.invariant.number (subst (λ r. Opening (log ++ g ∷ []) c.args.next c.loop-task.number w (crossed L S) r c.loop-task.tasks.items) head c.loop-task.invariant.same))
      | inr m ↦ inr m
    ]

pub returns-clause-ok : goal.returns-clause-ok
returns-clause-ok c =
    let log = c.args.log.now in
    let g = c.args.guards.now in
    let fs = c.args.frozen.now in
    let L = map (λ f. frozen_of log f) fs in
    let S = stairs g in
    let i = c.loop-task.task-index in
    let none : drop i L ≡ [] = drop_all i L (omega (arith, length-map fs (λ f. frozen_of log f), c.loop-task-test.false)) in
    opening_end (log ++ g ∷ []) c.args.next c.loop-task.number c.args.view.now (crossed L S) (crossed (drop i L) S) c.loop-task.tasks.items (ap (λ Fs. crossed Fs S) none) c.loop-task.invariant.same

pub returns-clause-few : goal.returns-clause-few
returns-clause-few c = omega (arith, c.loop-task.invariant.number, c.loop-task.invariant.few)
