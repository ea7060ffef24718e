use Rattle.std.proofs.Common.{[], arith, slice_index_or, subst, sym, take, true, ◌≡◌}
use Rattle.std.proofs.lemmas.List.{take_all}
use Rattle.std.specs.List.{list_all}
use Rattle.poly_tasks.specs.Mapped.{AreNoted, AreRunsNoted, under}
use Rattle.poly_tasks.specs.Meaning.{IsTask, own_of}
use Rattle.poly_tasks.proofs.Held.{task_at}
use Rattle.poly_tasks.proofs.Mapping.{all_more, on_ok_then, wide_atoms}
use Rattle.poly_tasks.proofs.maps.Maps.note_all.Goals as goal

pub note_base-requires : goal.note_base-requires
note_base-requires c = record {
  known = c.loop-i.invariant.base;
  own = (subst (λ p. IsTask c.args.log.now p) (sym c.index-tasks-i.is) (task_at c.args.log.now c.args.tasks.now c.loop-i.i c.index-tasks-i.result c.requires c.loop-i-test.true)).own;
}

pub note_task-requires-clause-own : goal.note_task-requires-clause-own
note_task-requires-clause-own c = (subst (λ p. IsTask c.args.log.now p) (sym c.index-tasks-i.is) (task_at c.args.log.now c.args.tasks.now c.loop-i.i c.index-tasks-i.result c.requires c.loop-i-test.true)).own

pub note_task-requires-clause-base : goal.note_task-requires-clause-base
note_task-requires-clause-base c = c.in_ok-note_base.ensures.ok

pub note_task-requires-clause-prefix : goal.note_task-requires-clause-prefix
note_task-requires-clause-prefix c =
    let f = c.loop-i.prefix in
    λ n h. wide_atoms c.loop-i.self c.note_base.new.self n (take f.count (slice_index_or c.args.log.now f.edition [])) c.note_base.ensures.wider (c.loop-i.invariant.prefix n h)

pub loop-i-preserved : goal.loop-i-preserved
loop-i-preserved c =
    let m = c.note_task.new.self in
    let m1 = c.note_base.new.self in
    let i = c.loop-i.i in
    let log = c.args.log.now in
    let ps = c.args.tasks.now in
    let x = c.index-tasks-i.result in
    record {
      wider = λ a n h. c.note_task.ensures.wider a n (c.note_base.ensures.wider a n (c.loop-i.invariant.wider a n h));
      prefix = c.in_ok-note_task.ensures.prefix;
      noted = λ m2 done.
          let before = c.in_ok-note_task.ensures.runs m2 done in
          all_more (λ p. list_all (λ a. under m2 a p.number) (own_of log p.own)) ps i x c.loop-i-test.true
          (c.loop-i.invariant.noted m2 ((λ a n h. before.0 a n (c.note_base.ensures.wider a n h)), before.1))
          (subst (λ p. list_all (λ a. under m2 a p.number) (own_of log p.own) ≡ true) c.index-tasks-i.is (c.in_ok-note_task.ensures.ok m2 done));
      base = λ n h. wide_atoms m1 m n c.note_base.new.known.others.items c.note_task.ensures.wider (c.in_ok-note_base.ensures.known n h);
    }

pub returns-clause-ok : goal.returns-clause-ok
returns-clause-ok c =
    let m = c.note_runs.new.self in
    let runs = c.loop-i.runs in
    let ps = c.args.tasks.now in
    on_ok_then c.note_runs.result (AreRunsNoted m runs.last c.deref.result.now) (AreNoted m c.args.log.now ps)
    (λ h. subst (AreNoted m c.args.log.now) (take_all c.loop-i.i ps (omega (arith, c.loop-i-test.false)))
    (c.loop-i.invariant.noted m (c.note_runs.ensures.wider, subst (AreRunsNoted m runs.last) c.deref.ensures.value h)))
    c.note_runs.ensures.ok

pub returns-in_err-note_base-clause-wider : goal.returns-in_err-note_base-clause-wider
returns-in_err-note_base-clause-wider c = λ a n h. c.note_base.ensures.wider a n (c.loop-i.invariant.wider a n h)

pub returns-in_err-note_task-clause-wider : goal.returns-in_err-note_task-clause-wider
returns-in_err-note_task-clause-wider c = λ a n h. c.note_task.ensures.wider a n (c.note_base.ensures.wider a n (c.loop-i.invariant.wider a n h))

pub returns-clause-wider : goal.returns-clause-wider
returns-clause-wider c = λ a n h. c.note_runs.ensures.wider a n (c.loop-i.invariant.wider a n h)
