use Rattle.std.proofs.Common.{refl, subst, take, true, ◌≡◌}
use Rattle.std.proofs.lemmas.List.{take_all}
use Rattle.poly_tasks.specs.Mapped.{AreRunsNoted, has_run}
use Rattle.poly_tasks.proofs.Mapping.{all_more}
use Rattle.poly_tasks.proofs.Spanning.{run_now, runs_wide}
use Rattle.poly_tasks.proofs.maps.Maps.note_runs.Goals as goal

pub loop-run-preserved : goal.loop-run-preserved
loop-run-preserved c =
    let m = c.note.new.self in
    let i = c.loop-run.run-index in
    let rs = c.args.runs.now in
    let x = c.run-item.result in
    record {
      wider = λ a n h. c.note.ensures.wider a n (c.loop-run.invariant.wider a n h);
      noted = λ n l. all_more (has_run m n) rs i x c.loop-run-test.true
          (runs_wide c.loop-run.self m n (take i rs) c.note.ensures.wider (c.loop-run.invariant.noted n l))
          (subst (λ r. has_run m n r ≡ true) c.run-item.is (run_now m x c.args.last n c.in_ok-note.ensures.ok l));
    }

pub loop-run-init : goal.loop-run-init
loop-run-init c = record { wider = λ a n h. h; noted = λ n l. refl }

pub returns-in_err-note-clause-wider : goal.returns-in_err-note-clause-wider
returns-in_err-note-clause-wider c = λ a n h. c.note.ensures.wider a n (c.loop-run.invariant.wider a n h)

pub returns-clause-wider : goal.returns-clause-wider
returns-clause-wider c = c.loop-run.invariant.wider

pub returns-clause-ok : goal.returns-clause-ok
returns-clause-ok c = subst (λ rs. AreRunsNoted c.loop-run.self c.args.last rs) (take_all c.loop-run.run-index c.args.runs.now c.loop-run-test.false) c.loop-run.invariant.noted
